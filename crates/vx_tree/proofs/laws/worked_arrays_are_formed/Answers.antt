use Rattle.std.proofs.Common.{[], ◌∷◌, lit<, refl, rules}
use Rattle.vx_base.specs.Integers.{numbers}
use Rattle.vx_tree.proofs.Worked.{overlapping_formed, are_codes, are_below, are_bytes}
use Rattle.vx_tree.proofs.WorkedViews.{texts_formed, bytes_formed}
use Rattle.vx_tree.proofs.laws.worked_arrays_are_formed.Goals as goal

pub returns-clause-numbers : goal.returns-clause-numbers
unfolding numbers are_below
returns-clause-numbers c = ((tt, refl), are_bytes (254 ∷ 255 ∷ 1 ∷ 2 ∷ []) refl, tt)

pub returns-clause-booleans : goal.returns-clause-booleans
returns-clause-booleans c = (record { len = refl; kind = refl }, (tt, tt))

pub returns-clause-nulls : goal.returns-clause-nulls
unfolding numbers are_below
returns-clause-nulls c = ((tt, refl), are_bytes (7 ∷ 8 ∷ []) refl, tt)

pub returns-clause-constant : goal.returns-clause-constant
returns-clause-constant c = (search rules, (search rules, tt))

pub returns-clause-empty_lists : goal.returns-clause-empty_lists
unfolding numbers are_below
returns-clause-empty_lists c = ((tt, refl), ((tt, refl), are_bytes [] refl, tt), tt, lit< tt)

pub returns-clause-texts : goal.returns-clause-texts
returns-clause-texts c = texts_formed

pub returns-clause-bytes : goal.returns-clause-bytes
returns-clause-bytes c = bytes_formed

pub returns-clause-dictionary : goal.returns-clause-dictionary
unfolding numbers are_below
returns-clause-dictionary c = (
  record { codes = refl; within = λ i h. are_codes i; referenced = λ h. absurd (cc) },
  ((record { len = refl; kind = refl }, refl), are_bytes (0 ∷ 0 ∷ 2 ∷ 0 ∷ 1 ∷ []) refl, (tt, tt)),
  ((record { len = refl; kind = refl }, refl), are_bytes (0 ∷ 6 ∷ 9 ∷ []) refl, (tt, tt)),
)

pub returns-clause-fixed_lists : goal.returns-clause-fixed_lists
unfolding numbers are_below
returns-clause-fixed_lists c = ((record { len = refl; kind = refl }, refl), ((tt, refl), are_bytes (1 ∷ 2 ∷ 3 ∷ 4 ∷ []) refl, tt), (tt, tt), lit< tt)

pub returns-clause-list_view : goal.returns-clause-list_view
unfolding numbers are_below
returns-clause-list_view c =
    ((tt, overlapping_formed), ((tt, refl), are_bytes (1 ∷ 2 ∷ 3 ∷ 4 ∷ []) refl, tt), ((tt, refl), are_bytes (2 ∷ 0 ∷ 0 ∷ 0 ∷ 0 ∷ 0 ∷ 0 ∷ 0 ∷ 1 ∷ 0 ∷ 0 ∷ 0 ∷ []) refl, tt), ((tt, refl), are_bytes (2 ∷ 0 ∷ 0 ∷ 0 ∷ 1 ∷ 0 ∷ 0 ∷ 0 ∷ 2 ∷ 0 ∷ 0 ∷ 0 ∷ []) refl, tt), tt)

pub returns-clause-records : goal.returns-clause-records
unfolding numbers are_below
returns-clause-records c =
    ((record { len = refl; kind = refl }, record { named = refl; lens = (refl, (refl, tt)) }), (((tt, refl), are_bytes (1 ∷ 2 ∷ []) refl, tt), ((tt, tt), tt)), (tt, tt))

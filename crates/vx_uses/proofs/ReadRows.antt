-- Rows that are read one after another, and the rows that pass a test.
use Rattle.std.proofs.Common.{◌≡◌, ℕ, ◌+◌, ◌<◌, Bool, true, false, cond, List, [], ◌∷◌, ◌++◌, length, map, take, get_or, refl, sym, ◌∙◌, ap, subst, arith}
use Rattle.std.specs.List.{count_by, filter}
use Rattle.std.proofs.lemmas.List.Sums.{count_by_more_yes, count_by_more_no}
use Rattle.std.proofs.lemmas.List.{take_all, map_more, length-map}
use Rattle.vx_base.specs.Rows.{Row, null}
use Rattle.vx_tree.specs.Tree.{Tree}
use Rattle.vx_tree.specs.Meaning.{tree_len, row_at, rows}
use Rattle.vx_tree.specs.Operations.{filtered}
use Rattle.vx_tree.proofs.RowLists.{length-rows, get_or-rows}

pub counted : (p : Row → Bool) (t : Tree) (i : ℕ) → i < tree_len t → count_by p (take (i + 1) (rows t)) ≡ count_by p (take i (rows t)) + cond (p (row_at t i)) 1 0
counted p t i inside = by_test (p (row_at t i)) refl
  where
    in_rows : i < length (rows t)
    in_rows = subst (λ n. i < n) (sym (length-rows t)) inside

    here : p (get_or (rows t) i null) ≡ p (row_at t i)
    here = ap p (get_or-rows t i null inside)

    by_test : (b : Bool) → p (row_at t i) ≡ b → count_by p (take (i + 1) (rows t)) ≡ count_by p (take i (rows t)) + cond b 1 0
    by_test true is = count_by_more_yes p (rows t) i null in_rows (here ∙ is)
    by_test false is = count_by_more_no p (rows t) i null in_rows (here ∙ is) ∙ omega arith

pub told : (f : Row → Bool) (t : Tree) (i : ℕ) → i < tree_len t → map f (take (i + 1) (rows t)) ≡ map f (take i (rows t)) ++ f (row_at t i) ∷ []
told f t i inside =
    map_more f (rows t) i null (subst (λ n. i < n) (sym (length-rows t)) inside)
    ∙ ap (λ r. map f (take i (rows t)) ++ f r ∷ []) (get_or-rows t i null inside)

pub all_read : (t : Tree) → take (tree_len t) (rows t) ≡ rows t
all_read t = take_all (tree_len t) (rows t) (omega (arith, length-rows t))

passed : (p : Row → Bool) (r : Row) (rs : List Row) → filtered (map p rs) rs ≡ filter p rs → (b : Bool) → p r ≡ b → filtered (b ∷ map p rs) (r ∷ rs) ≡ cond b (r ∷ filter p rs) (filter p rs)
passed p r rs rest true is = ap (λ xs. r ∷ xs) rest
passed p r rs rest false is = rest

pub filtered-map : (p : Row → Bool) (rs : List Row) → filtered (map p rs) rs ≡ filter p rs
filtered-map p [] = refl
filtered-map p (r ∷ rs) = passed p r rs (filtered-map p rs) (p r) refl

pub length-told : (p : Row → Bool) (t : Tree) → length (map p (rows t)) ≡ tree_len t
length-told p t = length-map (rows t) p ∙ length-rows t

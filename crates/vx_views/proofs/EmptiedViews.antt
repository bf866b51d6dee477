-- Views whose null rows are emptied one after another.
use Rattle.std.proofs.Common.{◌≡◌, ◌⊎◌, ℕ, ◌+◌, ◌<◌, ◌≤◌, Bool, true, false, ◌∙◌, sym, ap, subst, refl, inl, inr, List, [], length, get_or, set, replicate, arith}
use Rattle.std.specs.Prelude.{slice_index_or, if◌then◌else◌, Option, Result, Ok, Err, IfErr, IsSome}
use Rattle.std.proofs.lemmas.Bool.{cases_lt, false≢true}
use Rattle.std.proofs.lemmas.Grind.{get_or-set_at}
use Rattle.std.proofs.lemmas.List.{get_or_default, get_or-set_other, length-set}
use Rattle.std.proofs.lemmas.List.FromFn.{fill_by_all}
use Rattle.vx_base.specs.Bits.{bool_at}
use Rattle.vx_base.specs.Refusals.{Refusal, refusal_of, Tests}
use Rattle.vx_base.specs.declared.errors.VortexError.{VortexError}
use Rattle.vx_base.specs.declared.errors.VortexError.TheVariants.{Memory}
use Rattle.vx_views.specs.Views.{view_of, inlined_view, padded}
use Rattle.vx_views.specs.Emptied.{valid_view, emptied_views, AreKept}

-- the view of no bytes is 16 zero bytes
empty_is_zeroes : view_of [] 0 0 ≡ replicate 16 0
unfolding inlined_view padded
empty_is_zeroes = refl

-- a view that is kept where a boolean is true is kept or zeroes
valid_or_zeroes : (b : Bool) (view after : List ℕ) → after ≡ (if b then view else replicate 16 0) → (after ≡ view) ⊎ (after ≡ replicate 16 0)
valid_or_zeroes true view after e = inl e
valid_or_zeroes false view after e = inr e

-- the views before a row are emptied, and the others are as they were
pub record AreEmptied (mask : List Bool) (before : List (List ℕ)) (row : ℕ) (after : List (List ℕ)) : Type 0 where
  pub len : length after ≡ length before
  pub done : (i : ℕ) → i < row → slice_index_or after i [] ≡ valid_view before mask i
  pub rest : (i : ℕ) → row ≤ i → slice_index_or after i [] ≡ slice_index_or before i []

module _ (mask : List Bool) (before : List (List ℕ)) where
  pub emptied-start : AreEmptied mask before 0 before
  emptied-start = record { len = refl; done = λ i l. absurd (omega arith); rest = λ i l. refl }

  -- the view of the row that is next
  pub emptied-unread : (row : ℕ) (after : List (List ℕ)) (view d : List ℕ) → AreEmptied mask before row after → row < length before → view ≡ get_or after row d → view ≡ get_or before row view
  emptied-unread row after view d e within at =
      at ∙ get_or_default after row d [] (omega (arith, e.len)) ∙ e.rest row (omega arith) ∙ sym (get_or_default before row view [] within)

  pub emptied-valid : (row : ℕ) (after : List (List ℕ)) → AreEmptied mask before row after → bool_at mask row ≡ true → AreEmptied mask before (row + 1) after
  emptied-valid row after e valid =
      record {
        len = e.len;
        done = λ i l. elim (cases_lt i row) [
          | inl past ↦ e.done i past
          | inr here ↦ let at : i ≡ row = omega arith in
              e.rest i here ∙ sym (ap (λ (b : Bool). if b then slice_index_or before i [] else replicate 16 0) (ap (bool_at mask) at ∙ valid))
        ];
        rest = λ i l. e.rest i (omega arith);
      }

  pub emptied-null : (row : ℕ) (after : List (List ℕ)) (view : List ℕ) → AreEmptied mask before row after → row < length before → bool_at mask row ≡ false → view ≡ view_of [] 0 0
      → AreEmptied mask before (row + 1) (set after row view)
  emptied-null row after view e within null empty =
      record {
        len = length-set after row view ∙ e.len;
        done = λ i l. elim (cases_lt i row) [
          | inl past ↦ get_or-set_other after row i view [] (omega arith) ∙ e.done i past
          | inr here ↦ get_or-set_at after row i view [] (omega arith) (omega (arith, e.len)) ∙ empty ∙ empty_is_zeroes
              ∙ sym (ap (λ (b : Bool). if b then slice_index_or before i [] else replicate 16 0) (ap (bool_at mask) {x = i} {y = row} (omega arith) ∙ null))
        ];
        rest = λ i l. get_or-set_other after row i view [] (omega arith) ∙ e.rest i (omega arith);
      }

  pub emptied-all : (row : ℕ) (after : List (List ℕ)) → AreEmptied mask before row after → length before ≤ row → after ≡ emptied_views before mask
  emptied-all row after e end = fill_by_all (valid_view before mask) after (length before) [] e.len (λ i l. e.done i (omega arith))

  pub emptied-kept : (row : ℕ) (after : List (List ℕ)) → AreEmptied mask before row after → AreKept mask before after
  emptied-kept row after e =
      record {
        len = e.len;
        same = λ i valid. elim (cases_lt i row) [
          | inl past ↦ e.done i past ∙ ap (λ (b : Bool). if b then slice_index_or before i [] else replicate 16 0) valid
          | inr rest ↦ e.rest i rest
        ];
        either = λ i. elim (cases_lt i row) [
          | inl past ↦ valid_or_zeroes (bool_at mask i) (slice_index_or before i []) (slice_index_or after i []) (e.done i past)
          | inr rest ↦ inl (e.rest i rest)
        ];
      }

-- a call that takes no memory answers no want of it
pub untouched-from_tests : {A : Type 0} (r : Result A VortexError) (fault : Option Refusal) (before after : List (List ℕ)) → Tests r fault → IfErr r (λ e. e ≡ Memory → after ≡ before)
untouched-from_tests (Ok x) fault before after tests = tt
untouched-from_tests (Err e) fault before after tests = λ is. absurd (false≢true (subst (λ (f : VortexError). IsSome (refusal_of f)) is tests.0))

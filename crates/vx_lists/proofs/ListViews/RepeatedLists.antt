-- Lists that all have the offset and the size of the first.
use Rattle.std.proofs.Common.{◌≡◌, ℕ, ◌+◌, ◌<◌, ◌≤◌, ◌↔◌, Bool, true, List, [], ◌∷◌, length, inl, inr, Some, None, Result, Ok, Err, refl, sym, ◌∙◌, ap, subst, arith}
use Rattle.std.specs.Prelude.{ℤ, pos, negsuc, IsSome, IfOk, unwrap_or}
use Rattle.vx_base.proofs.FirstFaults.{first_fault-of_none, first_fault-found}
use Rattle.vx_base.specs.declared.errors.VortexError.{VortexError}
use Rattle.vx_base.specs.Refusals.{refusal_of, Tests}
use Rattle.vx_base.specs.Bits.{bool_at}
use Rattle.vx_base.specs.MaskRuns.{is_in_run, is_in_runs, marked}
use Rattle.vx_base.proofs.MaskRuns.{run_in, run_before, run_past, or_false, bool_at-marked, length-marked}
use Rattle.std.proofs.lemmas.Bool.{cases_lt, false≢true}
use Rattle.vx_base.specs.Rows.{number_in, count_in}
use Rattle.vx_base.specs.Kinds.{is_plain_integers}
use Rattle.vx_tree.specs.Tree.{Tree}
use Rattle.vx_tree.specs.Meaning.{tree_len, kind_of, row_at}
use Rattle.vx_tree.specs.Formed.{IsCounts}
use Rattle.vx_lists.specs.ListViews.References.{LiesIn, AreMarked, AreBounds}
use Rattle.vx_lists.specs.ListViews.Faults.{list_row_fault, whole_at, list_rows_fault, AreRepeated}
use Rattle.vx_lists.proofs.ListViews.Faults.{list_row-not_negative, count_row}

-- a list that is no fault at its place is none at any other
faultless_anywhere : (count i j : ℕ) (o s : ℤ) → list_row_fault count i o s ≡ None → list_row_fault count j o s ≡ None
faultless_anywhere count i j (pos m) (pos n) none = none
faultless_anywhere count i j (pos m) (negsuc n) none = cc
faultless_anywhere count i j (negsuc m) (pos n) none = cc
faultless_anywhere count i j (negsuc m) (negsuc n) none = cc

module _ (count : ℕ) (o s : Tree) (offset size : ℤ) (h : AreRepeated o s) (offset_is : number_in (row_at o 0) ≡ Some offset) (size_is : number_in (row_at s 0) ≡ Some size) where
  fault_is : (i : ℕ) → list_row_fault count i (whole_at o i) (whole_at s i) ≡ list_row_fault count i offset size
  fault_is i =
      ap (λ r. list_row_fault count i (unwrap_or (number_in r) (pos 0)) (whole_at s i)) (h.offsets i) ∙ ap (λ z. list_row_fault count i (unwrap_or z (pos 0)) (whole_at s i)) offset_is
      ∙ ap (λ r. list_row_fault count i offset (unwrap_or (number_in r) (pos 0))) (h.sizes i) ∙ ap (λ z. list_row_fault count i offset (unwrap_or z (pos 0))) size_is

  -- the test of the first is the test of all
  pub first_row_tests : {A : Type 0} (r : Result A VortexError) → Tests r (list_row_fault count 0 offset size) → Tests r (list_rows_fault count o s)
  first_row_tests (Ok x) none = first_fault-of_none (λ i. list_row_fault count i (whole_at o i) (whole_at s i)) (tree_len o) (λ i l. fault_is i ∙ faultless_anywhere count 0 i offset size none)
  first_row_tests (Err e) names =
      let here : list_row_fault count 0 (whole_at o 0) (whole_at s 0) ≡ refusal_of e = fault_is 0 ∙ names.1 in
      (names.0, first_fault-found (λ i. list_row_fault count i (whole_at o i) (whole_at s i)) (tree_len o) 0 refl (subst IsSome (sym here) names.0) h.some ∙ here)

  -- and where it is no fault, all are counts
  pub first_row_offsets : {A : Type 0} (r : Result A VortexError) → is_plain_integers (kind_of o) ≡ true → Tests r (list_row_fault count 0 offset size) → IfOk r (λ x. IsCounts o)
  first_row_offsets (Ok x) kind none =
      let found = list_row-not_negative count 0 offset size none in
      record { kind = kind; counts = λ i l. rw (h.offsets i) (count_row (row_at o 0) offset found.0 offset_is found.2) }
  first_row_offsets (Err e) kind names = tt

  pub first_row_sizes : {A : Type 0} (r : Result A VortexError) → is_plain_integers (kind_of s) ≡ true → Tests r (list_row_fault count 0 offset size) → IfOk r (λ x. IsCounts s)
  first_row_sizes (Ok x) kind none =
      let found = list_row-not_negative count 0 offset size none in
      record { kind = kind; counts = λ i l. rw (h.sizes i) (count_row (row_at s 0) size found.1 size_is found.3) }
  first_row_sizes (Err e) kind names = tt

-- they lie in the elements that the first lies in
pub repeated_bounds : (o s : Tree) (start end : ℕ) → AreRepeated o s → start ≡ count_in (row_at o 0) → end ≡ start + count_in (row_at s 0) → AreBounds (λ i. count_in (row_at o i)) (λ i. count_in (row_at o i) + count_in (row_at s i)) (tree_len o) start end
repeated_bounds o s start end h first last =
    let ends : (i : ℕ) → count_in (row_at o i) + count_in (row_at s i) ≡ end = λ i. rw (h.offsets i, h.sizes i) (omega (arith, first, last)) in
    record {
      below = λ i l. rw (h.offsets i) (omega (arith, first));
      least_is = (0, h.some, sym first);
      above = λ i l. rw (ends i) (omega arith);
      greatest_is = (0, h.some, ends 0);
    }

-- and mark what the first marks: the run of its elements, or none
module _ (o s : Tree) (start end count : ℕ) (h : AreRepeated o s) (first : start ≡ count_in (row_at o 0)) (last : end ≡ start + count_in (row_at s 0)) (within : end ≤ count) where
  repeated_marked : (bits : List Bool) → length bits ≡ count → ((k : ℕ) → k < count → (bool_at bits k ≡ true) ↔ ((start ≤ k) × (k < end)))
      → AreMarked (λ i. count_in (row_at o i)) (λ i. count_in (row_at o i) + count_in (row_at s i)) (tree_len o) count bits
  repeated_marked bits long marked_by =
      record {
        len = long;
        each = λ k inside. (
          (λ is. let found = (marked_by k inside).0 is in (0, h.some, omega (arith, first, found.0), omega (arith, first, last, found.1))),
          (λ (found : LiesIn (λ i. count_in (row_at o i)) (λ i. count_in (row_at o i) + count_in (row_at s i)) (tree_len o) k).
              let low : count_in (row_at o 0) ≤ k = subst (λ r. count_in r ≤ k) (h.offsets found.0) found.2 in
              let high : k < count_in (row_at o 0) + count_in (row_at s 0) = rw (h.offsets found.0, h.sizes found.0) at found.3 in
              (marked_by k inside).1 (omega (arith, first, low), omega (arith, first, last, high))),
        );
      }

  pub run_marked : (runs : List (ℕ × ℕ)) → runs ≡ (start, end) ∷ [] → AreMarked (λ i. count_in (row_at o i)) (λ i. count_in (row_at o i) + count_in (row_at s i)) (tree_len o) count (marked count runs)
  run_marked runs one = repeated_marked (marked count runs) (length-marked count runs) (λ k inside.
      let here : bool_at (marked count runs) k ≡ is_in_run (start, end) k = bool_at-marked count runs k inside ∙ ap (λ rs. is_in_runs rs k) one ∙ or_false (is_in_run (start, end) k) in (
        (λ is. elim (cases_lt k start) [
          | inl below ↦ absurd (false≢true (sym (run_before (start, end) k below) ∙ sym here ∙ is))
          | inr low ↦ elim (cases_lt k end) [
            | inl high ↦ (low, high)
            | inr past ↦ absurd (false≢true (sym (run_past (start, end) k past) ∙ sym here ∙ is))
          ]
        ]),
        (λ lies. here ∙ run_in (start, end) k lies.0 lies.1),
      ))

  pub none_marked : (runs : List (ℕ × ℕ)) → runs ≡ [] → end ≤ start → AreMarked (λ i. count_in (row_at o i)) (λ i. count_in (row_at o i) + count_in (row_at s i)) (tree_len o) count (marked count runs)
  none_marked runs none empty = repeated_marked (marked count runs) (length-marked count runs) (λ k inside. (
    (λ is. absurd (false≢true (sym (ap (λ rs. is_in_runs rs k) none) ∙ sym (bool_at-marked count runs k inside) ∙ is))),
    (λ lies. absurd (omega (arith, lies.0, lies.1, empty))),
  ))

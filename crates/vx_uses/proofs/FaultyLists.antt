-- The row of a list that is refused.
use Rattle.std.proofs.Common.{◌≡◌, ℕ, ◌+◌, ◌<◌, Bool, true, false, cond, Some, None, sym, subst, inl, inr, arith}
use Rattle.std.specs.Prelude.{◌^◌, ◌+ℤ◌, ◌≤ℤ◌, ℤ, pos, negsuc, nat_lt, nat_le, Option}
use Rattle.std.proofs.lemmas.Bool.{cases_lt}
use Rattle.vx_base.specs.Refusals.{Refusal, overflow, out_of_bounds, FirstFaultIsLeast, IsLeastFault}
use Rattle.vx_tree.specs.Meaning.{tree_len}
use Rattle.vx_tree.specs.Tree.{Tree}
use Rattle.vx_lists.specs.ListViews.Faults.{list_row_fault, list_rows_fault, whole_at}
use Rattle.vx_uses.specs.FaultyRows.{EndsAt}
use Rattle.vx_uses.specs.Uses.{IsFirstFault}

past : (fits within : Bool) (sum end : ℕ) → cond fits (cond within None (Some (out_of_bounds sum))) (Some overflow) ≡ Some (out_of_bounds end) → sum ≡ end
past true true sum end is = cc
past true false sum end is = cc
past false within sum end is = cc

-- a list that is refused ends there
refused_list : (count i end : ℕ) (offset size : ℤ) → list_row_fault count i offset size ≡ Some (out_of_bounds end) → EndsAt offset size end
refused_list count i end (pos offset) (pos size) is = past (nat_lt (offset + size) (2 ^ 64)) (nat_le (offset + size) count) (offset + size) end is
refused_list count i end (pos offset) (negsuc size) is = cc
refused_list count i end (negsuc offset) (pos size) is = cc
refused_list count i end (negsuc offset) (negsuc size) is = cc

-- the fault that lists have that end at a place
abbrev fault_of_end : ℕ → ℕ → Refusal → Type 0
fault_of_end count end fault = cond (nat_lt end (2 ^ 64)) (cond (nat_le end count) None (Some (out_of_bounds end))) (Some overflow) ≡ Some fault

fault_at : (count i end : ℕ) (offset size : ℤ) (fault : Refusal) → EndsAt offset size end → list_row_fault count i offset size ≡ Some fault → fault_of_end count end fault
fault_at count i end (pos offset) (pos size) fault ends is = subst (λ n. fault_of_end count n fault) ends is
fault_at count i end (pos offset) (negsuc size) fault ends is = absurd ends
fault_at count i end (negsuc offset) size fault ends is = absurd ends

same_end : (count i end : ℕ) (offset size : ℤ) (fault : Refusal) → EndsAt offset size end → fault_of_end count end fault → list_row_fault count i offset size ≡ Some fault
same_end count i end (pos offset) (pos size) fault ends is = subst (λ n. fault_of_end count n fault) (sym ends) is
same_end count i end (pos offset) (negsuc size) fault ends is = absurd ends
same_end count i end (negsuc offset) size fault ends is = absurd ends

-- a sum of numbers that are not negative
pub ends_at : (offset size : ℤ) (end : ℕ) → pos 0 ≤ℤ offset → pos 0 ≤ℤ size → offset +ℤ size ≡ pos end → EndsAt offset size end
ends_at (pos offset) (pos size) end low short is = cc
ends_at (pos offset) (negsuc size) end low short is = absurd (omega arith)
ends_at (negsuc offset) size end low short is = absurd (omega arith)

module _ (law : FirstFaultIsLeast) (o s : Tree) (count end : ℕ) (refused : list_rows_fault count o s ≡ Some (out_of_bounds end)) where
  abbrev fault : ℕ → Option Refusal
  fault i = list_row_fault count i (whole_at o i) (whole_at s i)

  least : IsLeastFault fault (tree_len o) (Some (out_of_bounds end))
  least = subst (IsLeastFault fault (tree_len o)) refused (law fault (tree_len o))

  ends : EndsAt (whole_at o least.0) (whole_at s least.0) end
  ends = refused_list count least.0 end (whole_at o least.0) (whole_at s least.0) least.2

  -- the first row whose list ends there is the first faulty one
  pub first_faulty_list : (row : ℕ) → row < tree_len o → EndsAt (whole_at o row) (whole_at s row) end → ((i : ℕ) → i < row → EndsAt (whole_at o i) (whole_at s i) end → ⊥)
      → IsFirstFault count o s row (out_of_bounds end)
  first_faulty_list row inside here others = record {
    in_bounds = inside;
    stands = same_end count row end (whole_at o row) (whole_at s row) (out_of_bounds end) here (fault_at count least.0 end (whole_at o least.0) (whole_at s least.0) (out_of_bounds end) ends least.2);
    first = λ i before. elim (cases_lt i least.0) [
      | inl earlier ↦ least.3 i earlier
      | inr later ↦ absurd (others least.0 (omega arith) ends)
    ];
  }

  -- some list ends there
  pub some_list_ends : ((i : ℕ) → i < tree_len o → EndsAt (whole_at o i) (whole_at s i) end → ⊥) → ⊥
  some_list_ends others = others least.0 least.1 ends

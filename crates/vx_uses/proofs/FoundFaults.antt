-- What a refusal of the parts of a list view tells of its rows.
use Rattle.std.proofs.Common.{◌≡◌, ℕ, ◌+◌, Bool, true, false, cond, refl, ◌∙◌, ap, subst, inl, inr}
use Rattle.std.specs.Prelude.{◌⊎◌, ◌^◌, ℤ, pos, negsuc, nat_lt, nat_le, nat_eq, Option, Some, None}
use Rattle.vx_base.specs.Kinds.{is_plain_integers}
use Rattle.vx_base.specs.declared.errors.VortexError.{VortexError}
use Rattle.vx_base.specs.declared.errors.VortexError.TheVariants.{Negative, OutOfBounds}
use Rattle.vx_base.specs.Refusals.{Refusal, refusal_of, IsMemoryOr, mismatched_types, length_mismatch, negative, overflow, out_of_bounds, or_else, IsLeastFault, FirstFaultIsLeast}
use Rattle.vx_tree.specs.Tree.{Tree, non_nullable}
use Rattle.vx_tree.specs.Meaning.{tree_len, kind_of}
use Rattle.vx_lists.specs.ListViews.Faults.{list_view_fault, list_rows_fault, list_row_fault, whole_at}
use Rattle.vx_uses.specs.Uses.{IsFirstFault, IsNegative, NamesNoRow}

-- a fault that is none of types and lengths is one of a row
named_by_rows : (offsets sizes lens : Bool) (of_rows : Option Refusal) (named : Refusal) →
    or_else (or_else (cond offsets None (Some mismatched_types)) (or_else (cond sizes None (Some mismatched_types)) (or_else None (or_else (cond lens None (Some length_mismatch)) None)))) of_rows ≡ Some named →
    (mismatched_types ≡ named → ⊥) → (length_mismatch ≡ named → ⊥) → of_rows ≡ Some named
named_by_rows true true true of_rows named same types length = same
named_by_rows true true false of_rows named same types length = absurd (length cc)
named_by_rows true false lens of_rows named same types length = absurd (types cc)
named_by_rows false sizes lens of_rows named same types length = absurd (types cc)

first_row : (count : ℕ) (o s : Tree) (named : Refusal) → FirstFaultIsLeast → list_rows_fault count o s ≡ Some named → (row : ℕ) × IsFirstFault count o s row named
first_row count o s named law same =
    let fault : ℕ → Option Refusal = λ i. list_row_fault count i (whole_at o i) (whole_at s i) in
    let least : IsLeastFault fault (tree_len o) (Some named) = subst (IsLeastFault fault (tree_len o)) same (law fault (tree_len o)) in
    (least.0, record { in_bounds = least.1; stands = least.2; first = least.3 })

pub first_faulty_row : (e o s : Tree) (named : Refusal) → FirstFaultIsLeast → list_view_fault e o s non_nullable ≡ Some named →
    (mismatched_types ≡ named → ⊥) → (length_mismatch ≡ named → ⊥) → (row : ℕ) × IsFirstFault (tree_len e) o s row named
first_faulty_row e o s named law same types length =
    first_row (tree_len e) o s named law
    (named_by_rows (is_plain_integers (kind_of o)) (is_plain_integers (kind_of s)) (nat_eq (tree_len s) (tree_len o)) (list_rows_fault (tree_len e) o s) named same types length)

not_negative : (fits within : Bool) (end row : ℕ) → cond fits (cond within None (Some (out_of_bounds end))) (Some overflow) ≡ Some (negative row) → ⊥
not_negative true true end row same = cc
not_negative true false end row same = cc
not_negative false within end row same = cc

-- a row that is refused as negative is that row, and its offset or its size is negative
negative_row : (count i : ℕ) (offset size : ℤ) (row : ℕ) → list_row_fault count i offset size ≡ Some (negative row) → (i ≡ row) × (IsNegative offset ⊎ IsNegative size)
negative_row count i (pos offset) (pos size) row same = absurd (not_negative (nat_lt (offset + size) (2 ^ 64)) (nat_le (offset + size) count) (offset + size) row same)
negative_row count i (pos offset) (negsuc size) row same = (cc, inr (size, refl))
negative_row count i (negsuc offset) (pos size) row same = (cc, inl (offset, refl))
negative_row count i (negsuc offset) (negsuc size) row same = (cc, inl (offset, refl))

-- a fault that an error names is that of the error, where it is not want of memory
named : (fault : Option Refusal) (e : VortexError) (r : Refusal) → IsMemoryOr fault e → refusal_of e ≡ Some r → fault ≡ Some r
named fault e r (inl memory) is = cc (ap refusal_of memory, is)
named fault e r (inr same) is = same ∙ is

pub told_negative : (e o s : Tree) (refusal : VortexError) (row : ℕ) → FirstFaultIsLeast → IsMemoryOr (list_view_fault e o s non_nullable) refusal → refusal ≡ Negative row →
    (list_view_fault e o s non_nullable ≡ Some (negative row)) × IsFirstFault (tree_len e) o s row (negative row) × (IsNegative (whole_at o row) ⊎ IsNegative (whole_at s row))
told_negative e o s refusal row law refused is =
    let same = named (list_view_fault e o s non_nullable) refusal (negative row) refused (ap refusal_of is) in
    let found = first_faulty_row e o s (negative row) law same (λ h. cc) (λ h. cc) in
    let told = negative_row (tree_len e) found.0 (whole_at o found.0) (whole_at s found.0) row found.1.stands in
    subst (λ k. (list_view_fault e o s non_nullable ≡ Some (negative row)) × IsFirstFault (tree_len e) o s k (negative row) × (IsNegative (whole_at o k) ⊎ IsNegative (whole_at s k))) told.0 (same, found.1, told.1)

pub told_end : (e o s : Tree) (refusal : VortexError) (end len : ℕ) → FirstFaultIsLeast → IsMemoryOr (list_view_fault e o s non_nullable) refusal → refusal ≡ OutOfBounds end len →
    (list_view_fault e o s non_nullable ≡ Some (out_of_bounds end)) × ((row : ℕ) × IsFirstFault (tree_len e) o s row (out_of_bounds end))
told_end e o s refusal end len law refused is =
    let same = named (list_view_fault e o s non_nullable) refusal (out_of_bounds end) refused (ap refusal_of is) in
    (same, first_faulty_row e o s (out_of_bounds end) law same (λ h. cc) (λ h. cc))

-- an error that is neither names no row
pub names_no_row : (e : VortexError) → ((row : ℕ) → e ≡ Negative row → ⊥) → ((index len : ℕ) → e ≡ OutOfBounds index len → ⊥) → NamesNoRow e
names_no_row (Negative row) is_row is_end = is_row row refl
names_no_row (OutOfBounds index len) is_row is_end = is_end index len refl
names_no_row _ is_row is_end = tt

-- The rows of an array, and the mask of a validity, by their places.
use Rattle.std.proofs.Common.{◌≡◌, ℕ, ◌+◌, ◌-◌, ◌<◌, ◌≤◌, Bool, true, false, cond, eqb, List, length, map, get_or, replicate, Some, None, zero-add, refl, sym, ◌∙◌, ap, arith}
use Rattle.std.specs.Prelude.{◌↔◌, slice_range}
use Rattle.std.specs.List.{range_with_len}
use Rattle.std.proofs.lemmas.Bool.{eqb-true}
use Rattle.std.proofs.lemmas.List.FromFn.{fill_by_all, length-range_with_len, length-map-range_with_len, get_or-map-range_with_len}
use Rattle.std.proofs.lemmas.Simd.{splat_is_map}
use Rattle.vx_base.proofs.FirstFaults.{or_else-none}
use Rattle.vx_base.proofs.ListParts.{map_range_same, part_of_part}
use Rattle.vx_base.specs.Bits.{bool_at}
use Rattle.vx_base.specs.Kinds.{Kind, is_plain_booleans}
use Rattle.vx_base.specs.Refusals.{Refusal}
use Rattle.vx_base.specs.Rows.{Row, null}
use Rattle.vx_tree.specs.Tree.{Tree, Valid, bools, constant, non_nullable, all_valid, all_invalid, by_array}
use Rattle.vx_tree.specs.Faults.{valid_type_fault, valid_len_fault, validity_fault}
use Rattle.vx_tree.specs.Formed.{ValidFits}
use Rattle.vx_tree.specs.Meaning.{tree_len, kind_of, row_at, rows, valid_mask, is_valid_at}
use Rattle.vx_tree.proofs.Masks.{plain_booleans}

pub length-rows : (t : Tree) → length (rows t) ≡ tree_len t
length-rows t = length-map-range_with_len (row_at t) 0 (tree_len t)

pub get_or-rows : (t : Tree) (i : ℕ) (d : Row) → i < tree_len t → get_or (rows t) i d ≡ row_at t i
get_or-rows t i d inside = get_or-map-range_with_len (row_at t) 0 (tree_len t) i i d inside (zero-add i)

same_rows_by_place : (t u : Tree) → tree_len t ≡ tree_len u → ((i : ℕ) → i < tree_len t → row_at t i ≡ row_at u i) → rows t ≡ rows u
same_rows_by_place t u len each =
    map_range_same (row_at t) (row_at u) 0 0 (tree_len t) (λ i inside. ap (row_at t) (zero-add i) ∙ each i inside ∙ sym (ap (row_at u) (zero-add i)))
    ∙ ap (λ n. map (row_at u) (range_with_len 0 n)) len

same_places_by_rows : (t u : Tree) → rows t ≡ rows u → (tree_len t ≡ tree_len u) × ((i : ℕ) → i < tree_len t → row_at t i ≡ row_at u i)
same_places_by_rows t u same =
    let len : tree_len t ≡ tree_len u = sym (length-rows t) ∙ ap length same ∙ length-rows u in
    (len, λ i inside. sym (get_or-rows t i null inside) ∙ ap (λ rs. get_or rs i null) same ∙ get_or-rows u i null (omega arith))

pub rows_by_place : (t u : Tree) → (rows t ≡ rows u) ↔ ((tree_len t ≡ tree_len u) × ((i : ℕ) → i < tree_len t → row_at t i ≡ row_at u i))
rows_by_place t u = (same_places_by_rows t u, λ (len, each). same_rows_by_place t u len each)

pub part_of_part_by_ends : (rs : List Row) (start end from to : ℕ) → from ≤ to → to ≤ end - start → slice_range (slice_range rs start end) from to ≡ slice_range rs (start + from) (start + to)
part_of_part_by_ends rs start end from to ordered within =
    let len : start + (end - start) - start ≡ end - start = omega arith in
    let size : start + from + (to - from) - (start + from) ≡ (start + to) - (start + from) = omega arith in
    let whole = part_of_part rs start (end - start) from to ordered within in
    sym (rw (len, size) at whole)

pub rows-constant : (k : Kind) (r : Row) (n : ℕ) → rows (constant k r n) ≡ replicate n r
rows-constant k r n = sym (splat_is_map (range_with_len 0 n) n r (length-range_with_len 0 n))

-- ---- masks

pub length-valid_mask : (v : Valid) (n : ℕ) → length (valid_mask v n) ≡ n
length-valid_mask v n = length-map-range_with_len (is_valid_at v) 0 n

pub get_or-valid_mask : (v : Valid) (n i : ℕ) (d : Bool) → i < n → get_or (valid_mask v n) i d ≡ is_valid_at v i
get_or-valid_mask v n i d inside = get_or-map-range_with_len (is_valid_at v) 0 n i i d inside (zero-add i)

pub valid_mask-bits : (b : ℕ) (bits : List Bool) → valid_mask (by_array (bools b bits non_nullable)) (length bits) ≡ bits
valid_mask-bits b bits = sym (fill_by_all (bool_at bits) bits (length bits) false refl (λ i inside. refl))

-- ---- validities without a fault

tested : (b : Bool) (r : Refusal) → cond b None (Some r) ≡ None → b ≡ true
tested true r none = refl
tested false r none = cc

pub faultless_fits : (v : Valid) (n : ℕ) → validity_fault v n ≡ None → ValidFits v n
faultless_fits non_nullable n none = tt
faultless_fits all_valid n none = tt
faultless_fits all_invalid n none = tt
faultless_fits (by_array t) n none =
    let both = or_else-none (valid_type_fault (by_array t)) (valid_len_fault (by_array t) n) none in
    record {
      len = eqb-true (tree_len t) n (tested (eqb (tree_len t) n) _ both.1);
      kind = plain_booleans (kind_of t) (tested (is_plain_booleans (kind_of t)) _ both.0);
    }

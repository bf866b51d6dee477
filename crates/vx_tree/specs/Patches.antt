-- Booleans that are overwritten at positions.
use Rattle.std.specs.Prelude.{◌≡◌, ◌-◌, ◌&&◌, ℕ, pos, negsuc, Bool, true, false, List, [], ◌∷◌, map, Option, Some}
use Rattle.std.specs.Prelude.{None, nat_lt, slice_set, if◌then◌else◌}
use Rattle.std.specs.List.{range_with_len}
use Rattle.vx_base.specs.Kinds.{is_plain_integers}
use Rattle.vx_base.specs.Refusals.{Refusal, mismatched_types, nullability_mismatch, patch_out_of_range, or_else, first_fault}
use Rattle.vx_base.specs.Rows.{Row, whole, count_in}
use Rattle.vx_tree.specs.Tree.{Tree, Valid, non_nullable, all_valid, all_invalid}
use Rattle.vx_tree.specs.Meaning.{tree_len, kind_of, row_at, nullable, valid_mask}
use Rattle.vx_tree.specs.Shapes.{told, state_of}
use Rattle.vx_tree.specs.Formed.{ValidFits}
use Rattle.vx_tree.specs.Faults.{valid_type_fault, validity_fault}

-- the booleans, overwritten one after another at the positions
abbrev pub overwritten : List Bool → List ℕ → List Bool → List Bool
overwritten bits [] values = bits
overwritten bits (p ∷ ps) [] = bits
overwritten bits (p ∷ ps) (b ∷ values) = overwritten (slice_set bits p b) ps values

-- the positions that rows name, counted from an offset on
abbrev pub patch_positions : ℕ → Tree → List ℕ
patch_positions offset indices = map (λ i. count_in (row_at indices i) - offset) (range_with_len 0 (tree_len indices))

-- row i names none of n positions, counted from an offset on
abbrev pub patch_row_fault : ℕ → ℕ → ℕ → Row → Option Refusal
patch_row_fault offset n i (whole (pos k)) =
    if nat_lt k offset then Some (patch_out_of_range i) else (if nat_lt (k - offset) n then None else Some (patch_out_of_range i))
patch_row_fault offset n i (whole (negsuc k)) = Some (patch_out_of_range i)
patch_row_fault offset n i _ = None

-- the first row that names none
abbrev pub patch_positions_fault : ℕ → ℕ → Tree → Option Refusal
patch_positions_fault offset n indices = first_fault (λ i. patch_row_fault offset n i (row_at indices i)) (tree_len indices)

-- both are one state without an array, which patching leaves
abbrev pub is_unchanged : Valid → Valid → Bool
is_unchanged non_nullable non_nullable = true
is_unchanged all_valid all_valid = true
is_unchanged all_invalid all_invalid = true
is_unchanged _ _ = false

-- indices that are no plain integers, arrays that are none of plain booleans
abbrev pub patch_type_fault : Valid → Tree → Valid → Option Refusal
patch_type_fault v indices u =
    or_else (if is_plain_integers (kind_of indices) then None else Some mismatched_types)
    (or_else (valid_type_fault v) (valid_type_fault u))

-- then an array that has not n rows, patches that are not as many as the indices
abbrev pub patch_len_fault : Valid → ℕ → Tree → Valid → Option Refusal
patch_len_fault v n indices u = or_else (validity_fault v n) (validity_fault u (tree_len indices))

-- where rows are patched: types, then lengths, then the first position
abbrev pub patch_rows_fault : Valid → ℕ → ℕ → Tree → Valid → Option Refusal
patch_rows_fault v n offset indices u =
    or_else (patch_type_fault v indices u) (or_else (patch_len_fault v n indices u) (patch_positions_fault offset n indices))

abbrev pub patch_fault : Valid → ℕ → ℕ → Tree → Valid → Option Refusal
patch_fault v n offset indices u =
    if is_unchanged v u then None
    else (if nullable v && nullable u then patch_rows_fault v n offset indices u else Some nullability_mismatch)

-- n rows of a validity, overwritten one after another at the positions of indices by the rows of another
pub record IsPatched (v : Valid) (n offset : ℕ) (indices : Tree) (u : Valid) (w : Valid) : Type 0 where
  pub fits : ValidFits w n
  pub state : state_of w ≡ told
  pub mask : valid_mask w n ≡ overwritten (valid_mask v n) (patch_positions offset indices) (valid_mask u (tree_len indices))

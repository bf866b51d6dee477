-- Which fault a call on an array answers with, where several stand.
use Rattle.std.specs.Prelude.{◌*◌, ◌^◌, ℕ, pos, negsuc, Option, Some, None, nat_lt, ◌==◌, if◌then◌else◌}
use Rattle.vx_base.specs.Refusals.{Refusal, mismatched_types, length_mismatch, out_of_bounds, negative, overflow, or_else, first_fault}
use Rattle.vx_base.specs.Rows.{Row, whole}
use Rattle.vx_base.specs.Kinds.{is_integers, is_plain_booleans}
use Rattle.vx_tree.specs.Tree.{Tree, fixed_list, structure, Trees, no_trees, tree, Valid, by_array}
use Rattle.vx_tree.specs.Meaning.{tree_len, kind_of, row_at}

-- a row past the end
abbrev pub position_fault : ℕ → ℕ → Option Refusal
position_fault len i = if nat_lt i len then None else Some (out_of_bounds i)

-- a length that is not the one that is wanted
abbrev pub length_fault : ℕ → ℕ → Option Refusal
length_fault wanted found = if found == wanted then None else Some length_mismatch

-- the range of a slice: first its end, then its start
abbrev pub slice_fault : ℕ → ℕ → ℕ → Option Refusal
slice_fault len start end =
    if nat_lt len end then Some (out_of_bounds end) else (if nat_lt end start then Some (out_of_bounds start) else None)

-- a validity array that is not one of plain booleans
abbrev pub valid_type_fault : Valid → Option Refusal
valid_type_fault (by_array t) = if is_plain_booleans (kind_of t) then None else Some mismatched_types
valid_type_fault _ = None

-- the length of the validity array, where there is one
abbrev pub valid_len : Valid → Option ℕ
valid_len (by_array t) = Some (tree_len t)
valid_len _ = None

-- a validity array of another length
abbrev pub valid_len_fault : Valid → ℕ → Option Refusal
valid_len_fault (by_array t) n = if tree_len t == n then None else Some length_mismatch
valid_len_fault _ n = None

-- the first fault of a validity of n rows: an array that is not one of plain booleans, or of another length
abbrev pub validity_fault : Valid → ℕ → Option Refusal
validity_fault v n = or_else (valid_type_fault v) (valid_len_fault v n)

-- row i of the indices, as a position of len rows: a null is none
abbrev pub index_fault : ℕ → ℕ → Row → Option Refusal
index_fault len i (whole (pos k)) = if nat_lt k len then None else Some (out_of_bounds k)
index_fault len i (whole (negsuc k)) = Some (negative i)
index_fault len i _ = None

-- the first row of the indices that is no position of len rows
abbrev pub indices_fault : ℕ → Tree → Option Refusal
indices_fault len indices = first_fault (λ i. index_fault len i (row_at indices i)) (tree_len indices)

-- n rows of an array need more elements than can be counted: of a list of fixed size, the array itself or one reached
-- through columns and elements of fixed-size lists
abbrev mutual
  pub take_overflow : Tree → ℕ → Option Refusal
  take_overflow (fixed_list e k v m) n = if nat_lt (n * k) (2 ^ 64) then take_overflow e (n * k) else Some overflow
  take_overflow (structure ns ts v m) n = columns_overflow ts n
  take_overflow _ n = None

  pub columns_overflow : Trees → ℕ → Option Refusal
  columns_overflow no_trees n = None
  columns_overflow (tree t ts) n = or_else (take_overflow t n) (columns_overflow ts n)

-- taking: indices that are no integers, the first one that is no position, too many elements
abbrev pub take_fault : Tree → Tree → Option Refusal
take_fault t indices =
    if is_integers (kind_of indices)
    then or_else (indices_fault (tree_len t) indices) (take_overflow t (tree_len indices))
    else Some mismatched_types

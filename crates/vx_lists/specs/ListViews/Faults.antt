-- Why a list view, or its rebuilding, is refused.
use Rattle.std.specs.Prelude.{◌≡◌, ◌<◌, ℕ, ◌+◌, ◌^◌, ◌==◌, nat_lt, nat_le, int_le, if◌then◌else◌, ℤ, pos, negsuc}
use Rattle.std.specs.Prelude.{Option, Some, None, unwrap_or}
use Rattle.vx_base.specs.declared.ptypes.PType.{PType}
use Rattle.vx_base.specs.Integers.{greatest}
use Rattle.vx_base.specs.Refusals.{Refusal, mismatched_types, length_mismatch, negative, overflow, out_of_bounds, not_implemented, or_else}
use Rattle.vx_base.specs.Refusals.{first_fault}
use Rattle.vx_base.specs.Rows.{number_in}
use Rattle.vx_base.specs.Kinds.{is_plain_integers, integer_type}
use Rattle.vx_tree.specs.Tree.{Tree, Valid}
use Rattle.vx_tree.specs.Meaning.{tree_len, kind_of, row_at}
use Rattle.vx_tree.specs.Faults.{valid_type_fault, valid_len_fault, take_overflow}
use Rattle.vx_lists.specs.declared.list_view.rebuild.ListViewRebuildMode.{ListViewRebuildMode}
use Rattle.vx_lists.specs.declared.list_view.rebuild.ListViewRebuildMode.TheVariants.{MakeZeroCopyToList, TrimElements}
use Rattle.vx_lists.specs.declared.list_view.rebuild.ListViewRebuildMode.TheVariants.{MakeExact, OverlapCompression}
use Rattle.vx_lists.specs.ListViews.{elements_of, offsets_of, sizes_of, flag_of, rebuilt_ptype, total_of}

-- the fault of one row over `count` elements: a negative offset or size, an end past every usize, or an end past the elements
abbrev pub list_row_fault : ℕ → ℕ → ℤ → ℤ → Option Refusal
list_row_fault count row (pos offset) (pos size) =
    if nat_lt (offset + size) (2 ^ 64)
    then (if nat_le (offset + size) count then None else Some (out_of_bounds (offset + size)))
    else Some overflow
list_row_fault count row (pos offset) (negsuc size) = Some (negative row)
list_row_fault count row (negsuc offset) (pos size) = Some (negative row)
list_row_fault count row (negsuc offset) (negsuc size) = Some (negative row)

-- rows that are not whole numbers, or may be null
abbrev pub count_type_fault : Tree → Option Refusal
count_type_fault t = if is_plain_integers (kind_of t) then None else Some mismatched_types

-- the number of row i of an array of whole numbers
abbrev pub whole_at : Tree → ℕ → ℤ
whole_at t i = unwrap_or (number_in (row_at t i)) (pos 0)

-- sizes of another length than the offsets
abbrev pub sizes_len_fault : Tree → Tree → Option Refusal
sizes_len_fault o s = if tree_len s == tree_len o then None else Some length_mismatch

-- the types of offsets, sizes and validity, then the lengths of sizes and validity
abbrev pub list_parts_fault : Tree → Tree → Valid → Option Refusal
list_parts_fault o s v =
    or_else (count_type_fault o) (or_else (count_type_fault s) (or_else (valid_type_fault v)
    (or_else (sizes_len_fault o s) (valid_len_fault v (tree_len o)))))

-- the fault of the least row that has one
abbrev pub list_rows_fault : ℕ → Tree → Tree → Option Refusal
list_rows_fault count o s = first_fault (λ i. list_row_fault count i (whole_at o i) (whole_at s i)) (tree_len o)

-- the first fault of the parts of a list view: elements, offsets, sizes and validity
abbrev pub list_view_fault : Tree → Tree → Tree → Valid → Option Refusal
list_view_fault e o s v = or_else (list_parts_fault o s v) (list_rows_fault (tree_len e) o s)

-- a total that passes the greatest number of a type
abbrev pub total_fault : PType → ℕ → Option Refusal
total_fault t total = if int_le (pos total) (greatest t) then None else Some overflow

-- a total that passes the greatest number of either type, of offsets or of sizes
abbrev pub either_total_fault : PType → PType → ℕ → Option Refusal
either_total_fault o s total = or_else (total_fault o total) (total_fault s total)

-- the total of the valid sizes passes the greatest number of the rebuilt offset type or of the rebuilt size type
abbrev pub rebuilt_total_fault : Tree → Option Refusal
rebuilt_total_fault t =
    either_total_fault (rebuilt_ptype (integer_type (kind_of (offsets_of t))))
    (rebuilt_ptype (integer_type (kind_of (sizes_of t)))) (total_of t)

-- a list view cannot be laid out anew: the total of the valid sizes passes the greatest number of a rebuilt type, or that
-- many elements cannot be taken
abbrev pub rebuild_overflow : Tree → Option Refusal
rebuild_overflow t = or_else (rebuilt_total_fault t) (take_overflow (elements_of t) (total_of t))

-- the same by mode: an array without rows comes back in each
abbrev pub rebuild_fault : ListViewRebuildMode → Tree → Option Refusal
rebuild_fault MakeZeroCopyToList t = if tree_len t == 0 then None else (if flag_of t then None else rebuild_overflow t)
rebuild_fault TrimElements t = None
rebuild_fault MakeExact t = if tree_len t == 0 then None else (if flag_of t then None else rebuild_overflow t)
rebuild_fault OverlapCompression t = if tree_len t == 0 then None else Some not_implemented

-- there are lists, and each has the offset and the size of the first
pub record AreRepeated (o s : Tree) : Type 0 where
  pub some : 0 < tree_len o
  pub offsets : (i : ℕ) → row_at o i ≡ row_at o 0
  pub sizes : (i : ℕ) → row_at s i ≡ row_at s 0

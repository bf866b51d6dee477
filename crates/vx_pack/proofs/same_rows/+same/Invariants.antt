use Rattle.std.proofs.Common.{◌≡◌, ◌<◌, ◌+◌, ◌*◌, ℕ}
use Rattle.vx_base.specs.Codes.{kind_depth, kinds_depth}
use Rattle.vx_base.specs.DTypes.{dtype_meaning, field_kinds, field_names}
use Rattle.vx_tree.specs.RowParts.{field_at}
use Rattle.vx_pack.specs.Parts.{part_row}
use Rattle.vx_pack.specs.Records.{record_count, record_fields}
use Rattle.vx_pack.proofs.same_rows.+same.Given as goal

abbrev pub decreases-same_rows : goal.decreases-same_rows
decreases-same_rows l = 6 * kind_depth (dtype_meaning l.dtype.now) + 5

abbrev pub decreases-same_by_kind : goal.decreases-same_by_kind
decreases-same_by_kind l = 6 * kind_depth (dtype_meaning l.dtype.now) + 4

abbrev pub decreases-same_lists : goal.decreases-same_lists
decreases-same_lists l = 6 * kind_depth (dtype_meaning l.dtype.now) + 2

abbrev pub decreases-same_stored_lists : goal.decreases-same_stored_lists
decreases-same_stored_lists l = 6 * kind_depth (dtype_meaning l.dtype.now) + 1

abbrev pub decreases-same_list : goal.decreases-same_list
decreases-same_list l = 6 * kind_depth (dtype_meaning l.dtype.now)

abbrev pub decreases-same_records : goal.decreases-same_records
decreases-same_records l = 6 * kind_depth (dtype_meaning l.dtype.now) + 3

abbrev pub decreases-same_each_record : goal.decreases-same_each_record
decreases-same_each_record l = 6 * kind_depth (dtype_meaning l.dtype.now) + 2

abbrev pub decreases-same_record : goal.decreases-same_record
decreases-same_record l = 6 * kind_depth (dtype_meaning l.dtype.now) + 1

abbrev pub decreases-same_fields : goal.decreases-same_fields
decreases-same_fields l = 6 * kinds_depth (field_kinds l.fields.now) + 6

abbrev pub invariant-same_lists-loop-i : goal.invariant-same_lists-loop-i
invariant-same_lists-loop-i l = (j : ℕ) → j < l.i → part_row (dtype_meaning l.dtype) l.a j ≡ part_row (dtype_meaning l.dtype) l.b j

abbrev pub invariant-same_each_record-loop-i : goal.invariant-same_each_record-loop-i
invariant-same_each_record-loop-i l = (j : ℕ) → j < l.i → part_row (dtype_meaning l.dtype) l.a j ≡ part_row (dtype_meaning l.dtype) l.b j

abbrev pub invariant-same_fields-loop-place : goal.invariant-same_fields-loop-place
invariant-same_fields-loop-place l =
    (c : ℕ) → c < l.place → (i : ℕ) → i < record_count l.a
    → field_at c (record_fields (field_names l.fields) (field_kinds l.fields) l.a i) ≡ field_at c (record_fields (field_names l.fields) (field_kinds l.fields) l.b i)

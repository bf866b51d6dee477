use Rattle.std.proofs.Common.{◌≡◌, ◌+◌, ◌*◌, Bool, length}
use Rattle.vx_base.specs.Codes.{kind_depth, kinds_depth}
use Rattle.vx_base.specs.DTypes.{dtype_meaning, field_kinds, field_names}
use Rattle.vx_base.specs.Kinds.{records}
use Rattle.vx_pack.specs.Pieces.{ArePieces, pieces_rows}
use Rattle.vx_pack.proofs.PackedColumns.{AreFirstPacked}
use Rattle.vx_pack.proofs.pack_rows.+pack.Given as goal

abbrev pub decreases-pack_rows : goal.decreases-pack_rows
decreases-pack_rows l = 4 * kind_depth (dtype_meaning l.dtype.now) + 3

abbrev pub decreases-pack_lists : goal.decreases-pack_lists
decreases-pack_lists l = 4 * kind_depth (dtype_meaning l.dtype.now) + 2

abbrev pub decreases-pack_elements : goal.decreases-pack_elements
decreases-pack_elements l = 4 * kind_depth (dtype_meaning l.dtype.now) + 1

abbrev pub decreases-pack_fixed_lists : goal.decreases-pack_fixed_lists
decreases-pack_fixed_lists l = 4 * kind_depth (dtype_meaning l.dtype.now) + 2

abbrev pub decreases-pack_records : goal.decreases-pack_records
decreases-pack_records l = 4 * kind_depth (dtype_meaning l.dtype.now) + 2

abbrev pub decreases-pack_columns : goal.decreases-pack_columns
decreases-pack_columns l = 4 * kinds_depth (field_kinds l.fields.now) + 5

abbrev pub decreases-pack_field : goal.decreases-pack_field
decreases-pack_field l = 4 * kinds_depth (field_kinds l.fields.now) + 4

abbrev pub invariant-pack_columns-loop-place : goal.invariant-pack_columns-loop-place
invariant-pack_columns-loop-place l =
    let ks = field_kinds l.fields in
    let kind = records (field_names l.fields) ks in
    (length l.columns.items ≡ l.place)
    × ((n : Bool) → ArePieces (kind n) l.pieces l.len → AreFirstPacked ks (pieces_rows (kind n) l.pieces) l.columns.items)

use Rattle.std.proofs.Common.{Bool, map}
use Rattle.std.specs.List.{range_with_len}
use Rattle.vx_base.specs.DTypes.{field_kinds, field_names}
use Rattle.vx_base.specs.Kinds.{records}
use Rattle.vx_pack.proofs.FieldPieces.{ArePushedFields}
use Rattle.vx_pack.specs.Pieces.{IsPiece, piece_row}
use Rattle.vx_pack.specs.Records.{kind_at}
use Rattle.vx_pack.proofs.packed_fields.push_each_field.Given as goal

abbrev pub invariant-loop-i : goal.invariant-loop-i
invariant-loop-i l =
    (n : Bool) → IsPiece (records (field_names l.fields) (field_kinds l.fields) n) l.piece
    → ArePushedFields (kind_at l.place (field_kinds l.fields)) l.place
    (map (piece_row (records (field_names l.fields) (field_kinds l.fields) n) l.piece) (range_with_len 0 l.i)) l.initial.column.items
    l.column.items

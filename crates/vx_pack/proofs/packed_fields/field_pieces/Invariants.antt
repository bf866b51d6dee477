use Rattle.std.proofs.Common.{Bool, take}
use Rattle.std.specs.List.{All}
use Rattle.vx_base.specs.DTypes.{field_kinds, field_names}
use Rattle.vx_base.specs.Kinds.{records}
use Rattle.vx_pack.specs.Pieces.{AreFieldPieces, IsPiece, pieces_rows}
use Rattle.vx_pack.specs.Records.{kind_at}
use Rattle.vx_pack.proofs.packed_fields.field_pieces.Given as goal

abbrev pub invariant-loop-piece : goal.invariant-loop-piece
invariant-loop-piece l =
    (n : Bool) → All (IsPiece (records (field_names l.fields) (field_kinds l.fields) n)) l.pieces
    → AreFieldPieces (kind_at l.place (field_kinds l.fields)) l.place
    (pieces_rows (records (field_names l.fields) (field_kinds l.fields) n) (take l.piece-index l.pieces)) l.column.items

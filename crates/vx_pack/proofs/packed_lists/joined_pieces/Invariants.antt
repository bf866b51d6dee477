use Rattle.std.proofs.Common.{take}
use Rattle.std.specs.List.{flat_map}
use Rattle.vx_base.specs.DTypes.{dtype_meaning}
use Rattle.vx_base.specs.Kinds.{Kind}
use Rattle.vx_pack.specs.Lists.{IsItemOf}
use Rattle.vx_pack.specs.Packed.{items_or_blank}
use Rattle.vx_pack.specs.Pieces.{AreJoined, pieces_rows}
use Rattle.vx_pack.proofs.packed_lists.joined_pieces.Given as goal

abbrev pub invariant-loop-piece : goal.invariant-loop-piece
invariant-loop-piece l =
    (item : Kind) → IsItemOf item (dtype_meaning l.dtype)
    → AreJoined item (flat_map (items_or_blank item l.blank) (pieces_rows (dtype_meaning l.dtype) (take l.piece-index l.pieces)))
    l.lists.items

use Rattle.std.proofs.Common.{map}
use Rattle.std.specs.List.{range_with_len}
use Rattle.vx_base.specs.DTypes.{dtype_meaning}
use Rattle.vx_base.specs.Kinds.{Kind}
use Rattle.vx_pack.proofs.ListPieces.{ArePushedLists}
use Rattle.vx_pack.specs.Lists.{IsItemOf}
use Rattle.vx_pack.specs.Pieces.{piece_row}
use Rattle.vx_pack.proofs.packed_lists.push_lists.Given as goal

abbrev pub invariant-loop-i : goal.invariant-loop-i
invariant-loop-i l =
    (item : Kind) → IsItemOf item (dtype_meaning l.dtype)
    → ArePushedLists item l.blank (map (piece_row (dtype_meaning l.dtype) l.piece) (range_with_len 0 l.i)) l.initial.lists.items
    l.lists.items

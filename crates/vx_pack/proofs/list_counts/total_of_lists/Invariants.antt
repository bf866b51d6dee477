use Rattle.std.proofs.Common.{◌≡◌, ◌≤◌, length, take}
use Rattle.vx_base.specs.DTypes.{dtype_meaning}
use Rattle.vx_pack.specs.ListItems.{list_items}
use Rattle.vx_pack.specs.Pieces.{pieces_rows}
use Rattle.vx_pack.proofs.list_counts.total_of_lists.Given as goal

abbrev pub invariant-loop-piece : goal.invariant-loop-piece
invariant-loop-piece l =
    let k = dtype_meaning l.dtype in
    (l.total ≡ length (list_items k (pieces_rows k (take l.piece-index l.pieces)))) × (l.total ≤ l.limit)

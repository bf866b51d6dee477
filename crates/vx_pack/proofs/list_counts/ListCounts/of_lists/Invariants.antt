use Rattle.std.proofs.Common.{take}
use Rattle.vx_base.specs.DTypes.{dtype_meaning}
use Rattle.vx_pack.specs.ListItems.{AreListCounts, item_counts}
use Rattle.vx_pack.specs.Pieces.{pieces_rows}
use Rattle.vx_pack.proofs.list_counts.ListCounts.of_lists.Given as goal

abbrev pub invariant-loop-piece : goal.invariant-loop-piece
invariant-loop-piece l =
    let k = dtype_meaning l.dtype in
    AreListCounts l.total (item_counts k (pieces_rows k (take l.piece-index l.pieces))) l.counts

use Rattle.std.proofs.Common.{take}
use Rattle.vx_base.specs.DTypes.{dtype_meaning}
use Rattle.vx_pack.specs.Gathered.{AreGathered}
use Rattle.vx_pack.specs.ListItems.{list_items}
use Rattle.vx_pack.specs.Pieces.{pieces_rows}
use Rattle.vx_pack.proofs.packed_items.pack_items.Given as goal

abbrev pub invariant-loop-piece : goal.invariant-loop-piece
invariant-loop-piece l =
    let k = dtype_meaning l.dtype in
    AreGathered (dtype_meaning l.items) (list_items k (pieces_rows k (take l.piece-index l.pieces))) l.gathered

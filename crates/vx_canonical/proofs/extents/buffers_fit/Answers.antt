use Rattle.std.proofs.Common.{arith}
use Rattle.vx_tree.specs.Extents.{buffer_count}
use Rattle.vx_canonical.specs.Counted.{piece_extent}
use Rattle.vx_canonical.proofs.Counted.{sum_step}
use Rattle.vx_canonical.proofs.extents.buffers_fit.Goals as goal

pub loop-piece-preserved : goal.loop-piece-preserved
loop-piece-preserved c =
    let step = sum_step buffer_count piece_extent c.args.pieces.now c.loop-piece.piece-index c.piece-item.result c.loop-piece-test.true c.piece-item.is in
    (omega (arith, step, c.loop-piece.invariant.0, c.buffer_count-more.ensures), omega (arith, c.loop-piece.invariant.1))

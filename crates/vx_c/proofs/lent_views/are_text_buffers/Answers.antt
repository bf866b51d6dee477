use Rattle.std.proofs.Common.{arith}
use Rattle.vx_c.proofs.LentViews.{buffers_more}
use Rattle.vx_c.proofs.lent_views.are_text_buffers.Goals as goal

pub loop-buffer-preserved : goal.loop-buffer-preserved
loop-buffer-preserved c =
    buffers_more c.args.buffers.now c.loop-buffer.buffer-index (omega arith) (c.is_utf8.ensures.0 c.if-not-is_utf8.false) c.loop-buffer.invariant

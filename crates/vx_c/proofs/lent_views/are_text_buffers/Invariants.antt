use Rattle.vx_c.proofs.LentViews.{AreTextBuffersBefore}
use Rattle.vx_c.proofs.lent_views.are_text_buffers.Given as goal

abbrev pub invariant-loop-buffer : goal.invariant-loop-buffer
invariant-loop-buffer l = AreTextBuffersBefore l.buffers l.buffer-index

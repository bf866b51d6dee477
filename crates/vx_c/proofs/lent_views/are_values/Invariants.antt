use Rattle.std.proofs.Common.{false}
use Rattle.vx_c.proofs.LentViews.{AreSoundBefore}
use Rattle.vx_c.proofs.lent_views.are_values.Given as goal

abbrev pub invariant-loop-view : goal.invariant-loop-view
invariant-loop-view l = AreSoundBefore l.views l.buffers false l.view-index

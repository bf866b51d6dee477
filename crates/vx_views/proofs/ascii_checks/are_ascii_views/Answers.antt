use Rattle.std.proofs.Common.{arith}
use Rattle.vx_views.proofs.AsciiChecks.{ascii_views_more}
use Rattle.vx_views.proofs.ascii_checks.are_ascii_views.Goals as goal

pub loop-view-preserved : goal.loop-view-preserved
loop-view-preserved c = ascii_views_more c.args.buffers.now c.args.views.now c.loop-view.view-index c.view-item.result (omega arith) c.view-item.is (c.is_ascii_view.ensures c.if-not-is_ascii_view.false) c.loop-view.invariant

use Rattle.std.proofs.Common.{true, arith}
use Rattle.vx_c.proofs.LentViews.{views_more, views_all}
use Rattle.vx_c.proofs.lent_views.are_text_values.Goals as goal

pub loop-view-preserved : goal.loop-view-preserved
loop-view-preserved c =
    views_more c.args.views.now c.args.buffers.now true c.loop-view.view-index _ c.view_of.result (omega arith) c.view_of.ensures
    (c.is_text.ensures c.if-not-is_text.false) c.loop-view.invariant

pub returns : goal.returns
returns c = λ told. views_all c.args.views.now c.args.buffers.now true c.loop-view.view-index (omega arith) c.loop-view.invariant

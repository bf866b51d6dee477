use Rattle.std.proofs.Common.{arith}
use Rattle.vx_tree.proofs.RunViews.{empty_none, empty_more}
use Rattle.vx_tree.proofs.layouts.var_bin_view.empty_range.Goals as goal

pub loop-k-init : goal.loop-k-init
loop-k-init c = empty_none c.args.views.now c.args.start

pub loop-k-preserved : goal.loop-k-preserved
loop-k-preserved c =
    empty_more c.args.views.now c.loop-k.views c.empty_view.result c.args.start c.loop-k.k (omega arith) (omega (arith, c.requires.within, c.loop-k-test.true)) c.empty_view.ensures c.loop-k.invariant

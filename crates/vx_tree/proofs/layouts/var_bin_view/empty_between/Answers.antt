use Rattle.std.proofs.Common.{arith}
use Rattle.vx_tree.proofs.RunViews.{IsEmptied-none, IsEmptied-next, IsEmptied-more, IsEmptied-all}
use Rattle.vx_tree.proofs.layouts.var_bin_view.empty_between.Goals as goal

pub loop-run-init : goal.loop-run-init
loop-run-init c = IsEmptied-none c.args.views.now

pub empty_range-requires-clause-ordered : goal.empty_range-requires-clause-ordered
empty_range-requires-clause-ordered c = IsEmptied-next c.loop-run.at c.loop-run.run-index c.args.runs.now c.args.views.now c.loop-run.views (0, 0) c.loop-run-test.true c.requires c.loop-run.invariant

pub empty_range-requires-clause-within : goal.empty_range-requires-clause-within
empty_range-requires-clause-within c =
    let run = c.requires.within c.loop-run.run-index (0, 0) c.loop-run-test.true in
    let some = c.requires.filled c.loop-run.run-index (0, 0) c.loop-run-test.true in
    omega (arith, run, some, c.loop-run.invariant.long)

pub loop-run-preserved : goal.loop-run-preserved
loop-run-preserved c =
    IsEmptied-more c.loop-run.at c.loop-run.run-index c.args.runs.now c.args.views.now c.loop-run.views c.empty_range.new.views (0, 0) c.loop-run-test.true c.requires c.empty_range.ensures.len c.empty_range.ensures.emptied c.loop-run.invariant

pub empty_range-requires-2-clause-ordered : goal.empty_range-requires-2-clause-ordered
empty_range-requires-2-clause-ordered c = omega (arith, c.loop-run.invariant.within, c.loop-run.invariant.long)

pub empty_range-requires-2-clause-within : goal.empty_range-requires-2-clause-within
empty_range-requires-2-clause-within c = omega arith

pub returns-clause-emptied : goal.returns-clause-emptied
returns-clause-emptied c =
    IsEmptied-all c.loop-run.at c.loop-run.run-index c.args.runs.now c.args.views.now c.loop-run.views c.empty_range-2.new.views (omega (arith, c.loop-run-test.false)) c.empty_range-2.ensures.emptied c.loop-run.invariant

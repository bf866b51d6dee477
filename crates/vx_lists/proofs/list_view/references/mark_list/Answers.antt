use Rattle.std.proofs.Common.{◌+◌, ◌/◌, refl, arith}
use Rattle.std.proofs.lemmas.List.{length-set}
use Rattle.vx_lists.proofs.ListViews.MarkedRuns.{IsCovered-range, IsCovered-run, LiesInRuns-longer}
use Rattle.vx_lists.proofs.list_view.references.mark_list.Goals as goal

pub returns-then-last-first-clause-covered : goal.returns-then-last-first-clause-covered
returns-then-last-first-clause-covered c = λ k _. IsCovered-range c.args.marked.now c.fill_range.new.self c.args.runs.now c.args.start c.args.end c.requires.ordered c.requires.within c.fill_range.ensures k

pub returns-clause-covered : goal.returns-clause-covered
returns-clause-covered c = λ k _.
    let runs = c.args.runs.now in
    let first = c.args.start / 4096 + 1 in
    let last = c.args.end / 4096 in
    IsCovered-run c.args.marked.now c.fill_range-2.new.self c.fill_range-3.new.self runs _ c.args.start first last c.args.end (omega arith) (omega arith) (omega arith) c.requires.within c.fill_range-2.ensures c.fill_range-3.ensures
    (LiesInRuns-longer runs _ first last c.max.result (omega (arith, c.requires.runs.len)) c.max.ensures refl (length-set runs first c.max.result)) k

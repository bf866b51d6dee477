use Rattle.vx_lists.proofs.ListViews.MarkedRuns.{AreRunsMarked}
use Rattle.vx_lists.proofs.list_view.references.mark_runs.Given as goal

abbrev pub invariant-loop-block : goal.invariant-loop-block
invariant-loop-block l = AreRunsMarked l.fn.marked l.runs l.block l.done l.marked

use Rattle.vx_run.specs.Shown.{AreCountsFrom}
use Rattle.vx_run.proofs.show.counts_by_row.Given as goal

abbrev pub invariant-loop-i : goal.invariant-loop-i
invariant-loop-i l = AreCountsFrom l.counts l.start l.i l.read.items

use Rattle.std.proofs.Common.{length, ◌-◌, ◌+◌}
use Rattle.vx_base.proofs.SharedRuns.{IsMet}
use Rattle.vx_base.proofs.mask_runs.runs_of_both.Given as goal

abbrev pub invariant-loop-i : goal.invariant-loop-i
invariant-loop-i l = IsMet l.len l.left l.right l.i l.j l.runs.items

abbrev pub decreases-loop-i : goal.decreases-loop-i
decreases-loop-i l = (length l.left - l.i) + (length l.right - l.j)

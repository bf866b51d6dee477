use Rattle.std.proofs.Common.{◌-◌, ◌≤◌}
use Rattle.vx_text.proofs.utf8.end_of_letter.Given as goal

abbrev pub invariant-loop-end : goal.invariant-loop-end
invariant-loop-end l = l.end ≤ 64

abbrev pub decreases-loop-end : goal.decreases-loop-end
decreases-loop-end l = l.end - 60

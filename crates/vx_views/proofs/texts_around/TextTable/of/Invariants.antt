use Rattle.std.proofs.Common.{length, ◌-◌}
use Rattle.vx_views.proofs.TextsAround.{IsTableTo}
use Rattle.vx_views.proofs.texts_around.TextTable.of.Given as goal

abbrev pub invariant-loop-start : goal.invariant-loop-start
invariant-loop-start l = IsTableTo l.bytes l.ranges.items l.start

abbrev pub decreases-loop-start : goal.decreases-loop-start
decreases-loop-start l = length l.bytes - l.start

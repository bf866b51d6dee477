use Rattle.std.proofs.Common.{length}
use Rattle.vx_run.specs.Shown.{Grows}
use Rattle.vx_run.proofs.script.Script.run_block.Given as goal

abbrev pub invariant-loop-end : goal.invariant-loop-end
invariant-loop-end g l = Grows (g.W.Write.contents l.fn.output) (g.W.Write.contents l.output)

abbrev pub decreases-loop-end : goal.decreases-loop-end
decreases-loop-end g l = length l.rest

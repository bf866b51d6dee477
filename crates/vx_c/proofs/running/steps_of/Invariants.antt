use Rattle.std.proofs.Common.{take}
use Rattle.std.specs.List.{AllZip}
use Rattle.vx_c.specs.Steps.{IsStepOf}
use Rattle.vx_c.proofs.running.steps_of.Given as goal

abbrev pub invariant-loop-i : goal.invariant-loop-i
invariant-loop-i l = AllZip IsStepOf (take l.i l.steps) l.read.items

use Rattle.std.proofs.Common.{◌+◌, ◌≤◌, length, take, vec_len}
use Rattle.std.specs.Vec.{vec_capacity}
use Rattle.vx_run.specs.Steps.{IsRun}
use Rattle.vx_run.proofs.run_steps.run.Given as goal

abbrev pub invariant-loop-i : goal.invariant-loop-i
invariant-loop-i l =
    IsRun (take l.i l.steps) l.fn.arrays.items l.arrays.items × (vec_len l.arrays + length l.steps ≤ vec_capacity l.arrays + l.i)

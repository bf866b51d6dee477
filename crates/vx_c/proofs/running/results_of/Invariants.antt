use Rattle.std.proofs.Common.{◌+◌, ◌≤◌, length, take, vec_len}
use Rattle.std.specs.Vec.{vec_capacity}
use Rattle.vx_c.specs.ColumnSteps.{IsColumnRun}
use Rattle.vx_c.proofs.running.results_of.Given as goal

abbrev pub invariant-loop-i : goal.invariant-loop-i
invariant-loop-i l =
    IsColumnRun (take l.i l.steps) l.fn.arrays.items l.arrays.items × (vec_len l.arrays + length l.steps ≤ vec_capacity l.arrays + l.i)

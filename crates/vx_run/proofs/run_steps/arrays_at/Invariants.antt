use Rattle.std.proofs.Common.{◌≡◌, length, take, drop}
use Rattle.vx_run.specs.Steps.{arrays_at, positions_fault}
use Rattle.vx_run.proofs.run_steps.arrays_at.Given as goal

abbrev pub invariant-loop-position : goal.invariant-loop-position
invariant-loop-position l =
    (l.found.items ≡ arrays_at l.arrays (take l.position-index l.positions))
    × (positions_fault (length l.arrays) l.positions ≡ positions_fault (length l.arrays) (drop l.position-index l.positions))

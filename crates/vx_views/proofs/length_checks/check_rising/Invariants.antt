use Rattle.std.proofs.Common.{◌≡◌, None, map}
use Rattle.vx_base.specs.Refusals.{first_fault}
use Rattle.vx_views.specs.BuildFaults.{falling_at}
use Rattle.vx_views.proofs.length_checks.check_rising.Given as goal

abbrev pub invariant-loop-row : goal.invariant-loop-row
invariant-loop-row g l = first_fault (falling_at (map g.P.Number.value l.offsets)) l.row ≡ None

use Rattle.std.proofs.Common.{◌≡◌, None}
use Rattle.vx_base.specs.Refusals.{first_fault}
use Rattle.vx_views.specs.BuildFaults.{too_long_at}
use Rattle.vx_views.proofs.length_checks.check_short.Given as goal

abbrev pub invariant-loop-row : goal.invariant-loop-row
invariant-loop-row g l = first_fault (too_long_at l.limit (g.L.Lengths.numbers l.lengths)) l.row ≡ None

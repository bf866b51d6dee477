use Rattle.std.proofs.Common.{◌≡◌, None}
use Rattle.vx_base.specs.Refusals.{first_fault}
use Rattle.vx_views.specs.BuildFaults.{negative_at}
use Rattle.vx_views.proofs.length_checks.check_natural.Given as goal

abbrev pub invariant-loop-row : goal.invariant-loop-row
invariant-loop-row g l = first_fault (negative_at (g.L.Lengths.numbers l.lengths)) l.row ≡ None

use Rattle.std.proofs.Common.{◌≡◌, None, map, pos}
use Rattle.vx_base.specs.Refusals.{first_fault}
use Rattle.vx_views.specs.BuildFaults.{too_long_at}
use Rattle.vx_text.proofs.rebuffer.check_short.Given as goal

abbrev pub invariant-loop-row : goal.invariant-loop-row
invariant-loop-row l = first_fault (too_long_at l.limit (map pos l.lens)) l.row ≡ None

use Rattle.std.proofs.Common.{refl, arith}
use Rattle.vx_views.proofs.LengthFaults.{first_negative-here}
use Rattle.vx_views.proofs.length_checks.check_natural.Goals as goal

pub returns-in_default : goal.returns-in_default
returns-in_default g c = (refl, first_negative-here (g.L.Lengths.numbers c.args.lengths.now) c.loop-row.row c.loop-row.invariant c.in_default.ensures.negative (omega arith))

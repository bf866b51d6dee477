use Rattle.std.proofs.Common.{refl, arith}
use Rattle.vx_views.proofs.LengthFaults.{is_length, length_is, first_too_long-here}
use Rattle.vx_views.proofs.length_checks.check_short.Goals as goal

pub unwrap-requires : goal.unwrap-requires
unwrap-requires g c = is_length (g.L.Lengths.numbers c.args.lengths.now) c.loop-row.row c.length_at.result c.requires (omega arith) c.length_at.ensures.negative

pub returns-then-limit-unwrap : goal.returns-then-limit-unwrap
returns-then-limit-unwrap g c = (
  refl,
  first_too_long-here c.args.limit (g.L.Lengths.numbers c.args.lengths.now) c.loop-row.row c.unwrap.result c.loop-row.invariant
      (length_is (g.L.Lengths.numbers c.args.lengths.now) c.loop-row.row c.unwrap.result c.length_at.result c.unwrap.ensures c.length_at.ensures.length)
      (omega arith) (omega arith),
)

use Rattle.std.proofs.Common.{map, arith}
use Rattle.std.proofs.lemmas.List.{length-map}
use Rattle.vx_views.proofs.Differences.{length_differences}
use Rattle.vx_views.proofs.lengths.OffsetLengthsLengths.count.Goals as goal

pub returns : goal.returns
returns g c = omega (arith, length_differences (map g.P.Number.value c.args.self.now.0.now), length-map c.args.self.now.0.now g.P.Number.value, c.saturating_sub.ensures)

use Rattle.vx_base.specs.Integers.{numbers}
use Rattle.vx_c.proofs.Spans.{ArePlacesBefore}
use Rattle.vx_c.proofs.lent_offsets.are_places.Given as goal

abbrev pub invariant-loop-row : goal.invariant-loop-row
invariant-loop-row g l = ArePlacesBefore (numbers g.P.NativePType.PTYPE l.bytes) l.count l.row

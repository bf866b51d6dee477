use Rattle.vx_base.specs.Integers.{numbers}
use Rattle.vx_c.proofs.Spans.{places_more}
use Rattle.vx_c.proofs.lent_offsets.are_places.Goals as goal

pub loop-row-preserved : goal.loop-row-preserved
loop-row-preserved g c =
    places_more (numbers g.P.NativePType.PTYPE c.args.bytes.now) c.args.count c.loop-row.row c.in-Some.place c.in-Some.ensures c.if-place-count.true c.loop-row.invariant

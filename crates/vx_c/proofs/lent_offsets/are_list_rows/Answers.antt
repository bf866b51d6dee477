use Rattle.vx_base.specs.Integers.{numbers}
use Rattle.vx_c.proofs.Spans.{list_rows_more}
use Rattle.vx_c.proofs.lent_offsets.are_list_rows.Goals as goal

pub loop-row-preserved : goal.loop-row-preserved
loop-row-preserved g c =
    list_rows_more (numbers g.O.NativePType.PTYPE c.args.offsets.now) (numbers g.S.NativePType.PTYPE c.args.sizes.now) c.args.count c.loop-row.row
    c.count_at.result c.count_at-in-loop-row.result c.count_at.ensures c.count_at-in-loop-row.ensures (c.is_within.ensures c.if-not-is_within.false) c.loop-row.invariant

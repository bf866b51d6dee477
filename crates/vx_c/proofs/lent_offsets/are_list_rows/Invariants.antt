use Rattle.vx_base.specs.Integers.{numbers}
use Rattle.vx_c.proofs.Spans.{AreListRowsBefore}
use Rattle.vx_c.proofs.lent_offsets.are_list_rows.Given as goal

abbrev pub invariant-loop-row : goal.invariant-loop-row
invariant-loop-row g l = AreListRowsBefore (numbers g.O.NativePType.PTYPE l.offsets) (numbers g.S.NativePType.PTYPE l.sizes) l.count l.row

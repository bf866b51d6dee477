use Rattle.vx_base.specs.Integers.{numbers}
use Rattle.vx_views.specs.BuildFaults.{differences}
use Rattle.vx_c.specs.Spans.{starts_of}
use Rattle.vx_c.proofs.Spans.{AreListRowsBefore}
use Rattle.vx_c.proofs.lent_offsets.are_lists_between.Given as goal

abbrev pub invariant-loop-row : goal.invariant-loop-row
invariant-loop-row g l =
    AreListRowsBefore (starts_of (numbers g.P.NativePType.PTYPE l.starts)) (differences (numbers g.P.NativePType.PTYPE l.ends)) l.count l.row

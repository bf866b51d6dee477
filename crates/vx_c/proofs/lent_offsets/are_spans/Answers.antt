use Rattle.std.proofs.Common.{◌≡◌, ◌+◌, ◌-◌, pos, subst, sym, arith}
use Rattle.vx_base.specs.Integers.{numbers}
use Rattle.vx_c.specs.Spans.{past_first, IsSpan}
use Rattle.vx_c.proofs.Spans.{past_first-first, spans_more}
use Rattle.vx_c.proofs.lent_offsets.are_spans.Goals as goal

pub loop-row-init : goal.loop-row-init
loop-row-init g c =
    let offsets = numbers g.P.NativePType.PTYPE c.args.offsets.now in
    record { last = past_first-first offsets; before = λ i l. absurd {A = IsSpan offsets c.args.count i} (omega (arith, l)) }

pub loop-row-preserved : goal.loop-row-preserved
loop-row-preserved g c =
    let offsets = numbers g.P.NativePType.PTYPE c.args.offsets.now in
    let row = c.loop-row.row in
    let end = c.in-Some.end in
    let same : row + 1 - 1 ≡ row = omega arith in
    record {
      last = subst (λ k. past_first offsets k ≡ pos end) (sym same) c.in-Some.ensures;
      before = spans_more offsets c.args.count row c.loop-row.start end (omega arith) c.loop-row.invariant.last c.in-Some.ensures c.if-end-start.false c.if-count-end.false c.loop-row.invariant.before;
    }

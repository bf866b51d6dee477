use Rattle.std.proofs.Common.{◌≡◌, ◌+◌, ◌-◌, length, pos, subst, sym, arith, IsUtf8}
use Rattle.vx_base.specs.Integers.{numbers}
use Rattle.vx_c.specs.Spans.{past_first, between, IsSpan}
use Rattle.vx_c.proofs.Spans.{past_first-first, spans_more}
use Rattle.vx_c.proofs.LentTexts.{texts_more}
use Rattle.vx_c.proofs.lent_texts.are_cuts.Goals as goal

pub loop-row-init : goal.loop-row-init
loop-row-init g c =
    let offsets = numbers g.P.NativePType.PTYPE c.args.offsets.now in
    let heap = c.args.heap.now in
    record {
      last = past_first-first offsets;
      boundary = c.is_boundary.ensures.0 c.if-not-is_boundary.false;
      before = λ i l. absurd {A = IsSpan offsets (length heap) i} (omega (arith, l));
      texts = λ i l. absurd {A = IsUtf8 (between offsets heap i)} (omega (arith, l));
    }

pub loop-row-preserved : goal.loop-row-preserved
loop-row-preserved g c =
    let offsets = numbers g.P.NativePType.PTYPE c.args.offsets.now in
    let heap = c.args.heap.now in
    let row = c.loop-row.row in
    let start = c.loop-row.start in
    let end = c.in-Some.end in
    let same : row + 1 - 1 ≡ row = omega arith in
    let boundary = c.is_boundary-else-heap-end.ensures.0 c.if-not-is_boundary-2.false in
    record {
      last = subst (λ k. past_first offsets k ≡ pos end) (sym same) c.in-Some.ensures;
      boundary = boundary;
      before = spans_more offsets (length heap) row start end (omega arith) c.loop-row.invariant.last c.in-Some.ensures c.if-end-start.false c.if-heap-end.false c.loop-row.invariant.before;
      texts = texts_more offsets heap row start end c.requires (omega arith) c.loop-row.invariant.last c.in-Some.ensures c.if-end-start.false c.if-heap-end.false c.loop-row.invariant.boundary boundary c.loop-row.invariant.texts;
    }

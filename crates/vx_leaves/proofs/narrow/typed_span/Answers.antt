use Rattle.std.proofs.Common.{◌≡◌, ◌+◌, ◌-◌, ◌++◌, length, get_or, take, map, sym, ap, ◌∙◌, subst, arith}
use Rattle.std.specs.List.{range_with_len}
use Rattle.vx_base.specs.Integers.{numbers, number_nth}
use Rattle.vx_base.proofs.RunLoops.{row_of_run}
use Rattle.vx_leaves.specs.Narrow.{IsSpan, kept}
use Rattle.vx_leaves.proofs.NarrowedRows.{kept_gap, kept_run, kept_whole}
use Rattle.vx_leaves.proofs.NarrowedTypes.{IsSpan-none, IsSpan-passed}
use Rattle.vx_leaves.proofs.RunRows.{start_of, start_is, start_past, start_within, gap_first, gap_after, end_before}
use Rattle.vx_leaves.proofs.narrow.typed_span.Goals as goal

pub loop-run-init : goal.loop-run-init
loop-run-init g c =
    let t = g.T.NativePType.PTYPE in
    let mask = c.args.mask.now in
    let zs = numbers t c.args.bytes.now in
    let runs = c.runs-run-items.result.now in
    let are = c.runs-run-items.ensures.apart in
    let same = c.runs-run-items.ensures.trues in
    let first = kept_gap mask zs 0 (start_of (length mask) runs 0) c.requires (omega arith) (start_within mask runs are same 0) (λ k low high. gap_first mask runs are same k high) in
    let m = g.T.Number.value c.greatest_number.result in
    let k = g.T.Number.value c.least_number.result in
    subst (λ ys. IsSpan t ys m k) (sym first) (IsSpan-none t m k c.greatest_number.ensures c.least_number.ensures)

pub widened_span-span-requires-clause-here : goal.widened_span-span-requires-clause-here
widened_span-span-requires-clause-here g c =
    let within = c.runs-run-items.ensures.apart.within c.loop-run.run-index (0, 0) c.loop-run-test.true in
    omega (arith, within, c.requires)

pub loop-run-preserved : goal.loop-run-preserved
loop-run-preserved g c =
    let t = g.T.NativePType.PTYPE in
    let mask = c.args.mask.now in
    let zs = numbers t c.args.bytes.now in
    let runs = c.runs-run-items.result.now in
    let are = c.runs-run-items.ensures.apart in
    let same = c.runs-run-items.ensures.trues in
    let i = c.loop-run.run-index in
    let there = c.loop-run-test.true in
    let run = get_or runs i (0, 0) in
    let p = start_of (length mask) runs i in
    let q = start_of (length mask) runs (i + 1) in
    let filled = are.filled i (0, 0) there in
    let wide = c.widened_span-span.ensures (kept (take p mask) (take p zs)) c.loop-run.invariant in
    let list : kept (take p mask) (take p zs) ++ map (number_nth zs) (range_with_len run.0 (run.1 - run.0)) ≡ kept (take q mask) (take q zs) =
    ap (λ n. kept (take n mask) (take n zs) ++ map (number_nth zs) (range_with_len run.0 (run.1 - run.0))) (start_is mask runs are same i (0, 0) there)
    ∙ sym (kept_run mask zs run.0 run.1 c.requires (omega arith) (are.within i (0, 0) there) (λ k low high. row_of_run mask runs i k (0, 0) are same there low high))
    ∙ sym (kept_gap mask zs run.1 q c.requires (end_before mask runs are same i (0, 0) there) (start_within mask runs are same (i + 1)) (λ k low high. gap_after mask runs are same i (0, 0) k there low high)) in
    subst (λ ys. IsSpan t ys (g.T.Number.value c.widened_span-span.result.0) (g.T.Number.value c.widened_span-span.result.1)) list wide

pub returns : goal.returns
returns g c =
    let t = g.T.NativePType.PTYPE in
    let mask = c.args.mask.now in
    let zs = numbers t c.args.bytes.now in
    let runs = c.runs-run-items.result.now in
    let i = c.loop-run.run-index in
    let past = start_past mask runs c.runs-run-items.ensures.apart c.runs-run-items.ensures.trues i (omega arith) in
    let all : kept (take (start_of (length mask) runs i) mask) (take (start_of (length mask) runs i) zs) ≡ kept mask zs = kept_whole mask zs (start_of (length mask) runs i) c.requires (omega (arith, past)) in
    IsSpan-passed t (kept mask zs) _ _ _ _ c.as_i128.ensures.value c.as_i128-2.ensures.value c.as_i128.ensures.holds c.as_i128-2.ensures.holds
    (subst (λ ys. IsSpan t ys (g.T.Number.value c.loop-run.span.0) (g.T.Number.value c.loop-run.span.1)) all c.loop-run.invariant)

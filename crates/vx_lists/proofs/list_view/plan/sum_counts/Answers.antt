use Rattle.std.proofs.Common.{◌≡◌, ◌+◌, ◌<◌, ◌≤◌, ℕ, List, length, get_or, sum, take, ap, ◌∙◌, arith}
use Rattle.std.proofs.lemmas.List.{take_all}
use Rattle.std.proofs.lemmas.List.Sums.{sum_by_more}
use Rattle.vx_base.specs.Integers.{numbers}
use Rattle.vx_lists.specs.ListViews.CountBytes.{counts_of}
use Rattle.vx_lists.proofs.ListViews.CountBytes.{length-counts_of}
use Rattle.vx_lists.proofs.list_view.plan.sum_counts.Goals as goal

pub loop-i-preserved : goal.loop-i-preserved
loop-i-preserved g c =
    let t = g.T.NativePType.PTYPE in
    let counts : List ℕ = counts_of t c.args.counts.now in
    let i : ℕ = c.loop-i.i in
    let inside : i < length counts = omega (arith, length-counts_of t c.args.counts.now, c.number_count-i-end.ensures, ap (λ p. length (numbers p c.args.counts.now)) c.PTYPE.ensures) in
    let more : sum (take (i + 1) counts) ≡ sum (take i counts) + get_or counts i 0 = sum_by_more (λ (x : ℕ). x) counts i 0 inside in
    record {
      so_far = omega (arith, more, c.loop-i.invariant.so_far, c.count_of_bytes.ensures.value);
      bounded = omega (arith, c.loop-i.invariant.bounded, c.count_of_bytes.type_inv);
    }

pub returns-clause-sum : goal.returns-clause-sum
returns-clause-sum g c =
    let t = g.T.NativePType.PTYPE in
    let counts : List ℕ = counts_of t c.args.counts.now in
    let all : length counts ≤ c.loop-i.i = omega (arith, length-counts_of t c.args.counts.now, c.number_count-i-end.ensures, ap (λ p. length (numbers p c.args.counts.now)) c.PTYPE.ensures) in
    c.loop-i.invariant.so_far ∙ ap sum (take_all c.loop-i.i counts all)

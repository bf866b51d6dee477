use Rattle.std.proofs.Common.{◌≡◌, ◌*◌, ◌<◌, ℕ, List, length, sym, ap, subst, ◌∙◌, arith}
use Rattle.std.specs.Prelude.{pos}
use Rattle.std.proofs.lemmas.List.Elements.{All-get_or}
use Rattle.vx_base.specs.Integers.{byte_width, numbers, Holds}
use Rattle.vx_lists.specs.ListViews.CountBytes.{counts_of}
use Rattle.vx_lists.proofs.ListViews.CountBytes.{length-counts_of, AreWritten-none, AreWritten-more, AreWritten-all}
use Rattle.vx_lists.proofs.list_view.plan.put_counts.Goals as goal

pub loop-i-init : goal.loop-i-init
loop-i-init g c =
    let t = g.N.NativePType.PTYPE in
    let counts : List ℕ = counts_of g.T.NativePType.PTYPE c.args.counts.now in
    AreWritten-none t counts c.args.out.now (c.requires.room ∙ ap (λ n. n * byte_width t) (sym (length-counts_of g.T.NativePType.PTYPE c.args.counts.now)))

pub put_count-requires-clause-holds : goal.put_count-requires-clause-holds
put_count-requires-clause-holds g c =
    let s = g.T.NativePType.PTYPE in
    let counts : List ℕ = counts_of s c.args.counts.now in
    let inside : c.loop-i.i < length counts = omega (arith, length-counts_of s c.args.counts.now, c.number_count-i-end.ensures, ap (λ p. length (numbers p c.args.counts.now)) c.PTYPE.ensures) in
    subst (λ n. Holds g.N.NativePType.PTYPE (pos n)) (sym c.count_of_bytes.ensures.value) (All-get_or (λ n. Holds g.N.NativePType.PTYPE (pos n)) counts c.loop-i.i 0 inside c.requires.held)

pub loop-i-preserved : goal.loop-i-preserved
loop-i-preserved g c =
    let s = g.T.NativePType.PTYPE in
    let counts : List ℕ = counts_of s c.args.counts.now in
    let inside : c.loop-i.i < length counts = omega (arith, length-counts_of s c.args.counts.now, c.number_count-i-end.ensures, ap (λ p. length (numbers p c.args.counts.now)) c.PTYPE.ensures) in
    AreWritten-more g.N.NativePType.PTYPE counts c.loop-i.i c.loop-i.out c.put_count.new.out c.count_of_bytes.result c.loop-i.invariant inside c.count_of_bytes.ensures.value c.put_count.ensures.len c.put_count.ensures.numbers

pub returns : goal.returns
returns g c =
    let s = g.T.NativePType.PTYPE in
    let counts : List ℕ = counts_of s c.args.counts.now in
    let end : c.loop-i.i ≡ length counts = omega (arith, length-counts_of s c.args.counts.now, c.number_count-i-end.ensures, ap (λ p. length (numbers p c.args.counts.now)) c.PTYPE.ensures) in
    AreWritten-all g.N.NativePType.PTYPE counts c.loop-i.i c.loop-i.out end c.loop-i.invariant

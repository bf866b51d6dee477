use Rattle.std.proofs.Common.{◌+◌, ◌*◌, ◌<◌, ℕ, List, length, sum, refl, sym, ap, ◌∙◌, arith}
use Rattle.vx_base.specs.Integers.{byte_width, numbers}
use Rattle.vx_lists.specs.ListViews.CountBytes.{counts_of}
use Rattle.vx_lists.specs.ListViews.Layout.{starts_from}
use Rattle.vx_lists.proofs.ListViews.CanonicalRows.{length-starts_from}
use Rattle.vx_lists.proofs.ListViews.CountBytes.{length-counts_of, AreWritten-none, AreWritten-more}
use Rattle.vx_lists.proofs.ListViews.PlannedNumbers.{Holds-below, greatest_small}
use Rattle.vx_lists.proofs.ListViews.PlannedRows.{next_start}
use Rattle.vx_lists.proofs.list_view.plan.put_starts.Goals as goal

pub loop-row-init : goal.loop-row-init
loop-row-init g c =
    let t = g.O.NativePType.PTYPE in
    let s = g.S.NativePType.PTYPE in
    let ss : List ℕ = counts_of s c.args.sizes.now in
    (AreWritten-none t (starts_from 0 ss) c.args.out.now (c.requires.room ∙ ap (λ n. n * byte_width t) (sym (length-starts_from 0 ss ∙ length-counts_of s c.args.sizes.now))), refl)

pub put_count-requires-clause-holds : goal.put_count-requires-clause-holds
put_count-requires-clause-holds g c =
    let s = g.S.NativePType.PTYPE in
    let ss : List ℕ = counts_of s c.args.sizes.now in
    let inside : c.loop-row.row < length ss = omega (arith, length-counts_of s c.args.sizes.now, c.number_count-row-end.ensures, ap (λ p. length (numbers p c.args.sizes.now)) c.PTYPE.ensures) in
    let next = next_start ss c.loop-row.row c.loop-row.at inside c.loop-row.invariant.1 in
    Holds-below g.O.NativePType.PTYPE c.loop-row.at (sum ss) next.1 c.requires.holds.1

pub overflow_add-at : goal.overflow_add-at
overflow_add-at g c =
    let s = g.S.NativePType.PTYPE in
    let ss : List ℕ = counts_of s c.args.sizes.now in
    let inside : c.loop-row.row < length ss = omega (arith, length-counts_of s c.args.sizes.now, c.number_count-row-end.ensures, ap (λ p. length (numbers p c.args.sizes.now)) c.PTYPE.ensures) in
    let next = next_start ss c.loop-row.row c.loop-row.at inside c.loop-row.invariant.1 in
    omega (arith, next.3, greatest_small g.O.NativePType.PTYPE (sum ss) c.requires.holds.1, c.count_of_bytes-at.ensures.value)

pub loop-row-preserved : goal.loop-row-preserved
loop-row-preserved g c =
    let t = g.O.NativePType.PTYPE in
    let s = g.S.NativePType.PTYPE in
    let ss : List ℕ = counts_of s c.args.sizes.now in
    let i : ℕ = c.loop-row.row in
    let inside : i < length ss = omega (arith, length-counts_of s c.args.sizes.now, c.number_count-row-end.ensures, ap (λ p. length (numbers p c.args.sizes.now)) c.PTYPE.ensures) in
    let next = next_start ss i c.loop-row.at inside c.loop-row.invariant.1 in
    (AreWritten-more t (starts_from 0 ss) i c.loop-row.out c.put_count.new.out c.loop-row.at c.loop-row.invariant.0 (omega (arith, length-starts_from 0 ss)) next.0 c.put_count.ensures.len c.put_count.ensures.numbers, ap (λ n. c.loop-row.at + n) c.count_of_bytes-at.ensures.value ∙ next.2)

use Rattle.std.proofs.Common.{◌≡◌, ◌<◌, pos, length, sym, ap, ◌∙◌, subst, arith}
use Rattle.std.specs.Prelude.{IfSome}
use Rattle.vx_base.specs.Integers.{numbers, number_nth}
use Rattle.vx_views.proofs.Differences.{number_at_differences}
use Rattle.vx_views.specs.BuildFaults.{differences}
use Rattle.vx_c.specs.Spans.{starts_of}
use Rattle.vx_c.proofs.Spans.{start_at, list_rows_more}
use Rattle.vx_c.proofs.lent_offsets.are_lists_between.Goals as goal

pub loop-row-preserved : goal.loop-row-preserved
loop-row-preserved g c =
    let os = numbers g.P.NativePType.PTYPE c.args.starts.now in
    let es = numbers g.P.NativePType.PTYPE c.args.ends.now in
    let row = c.loop-row.row in
    let count : c.number_count-row-end.result ≡ length os = c.number_count-row-end.ensures ∙ ap (λ p. length (numbers p c.args.starts.now)) c.PTYPE.ensures in
    let inside : row < length os = omega (arith, count, c.loop-row-test.true) in
    let starts : IfSome c.distance-start.result (λ n. number_nth (starts_of os) row ≡ pos n) =
    subst (λ z. IfSome c.distance-start.result (λ n. z ≡ pos n)) (sym (start_at os row inside)) c.distance-start.ensures in
    let has : IfSome c.distance.result (λ n. number_nth (differences es) row ≡ pos n) =
    subst (λ z. IfSome c.distance.result (λ n. z ≡ pos n)) (sym (number_at_differences es row (omega (arith, inside, c.requires)))) c.distance.ensures in
    list_rows_more (starts_of os) (differences es) c.args.count row c.distance-start.result c.distance.result starts has (c.is_within.ensures c.if-not-is_within.false) c.loop-row.invariant

use Rattle.std.proofs.Common.{◌≡◌, ◌<◌, ◌+◌, FitsSigned, IfSome, length, map, take, sym, ap, ◌∙◌, subst, arith, rules}
use Rattle.std.specs.Int.{w128}
use Rattle.std.proofs.lemmas.List.{length-map, take_all}
use Rattle.vx_base.specs.Integers.{Holds, number_nth}
use Rattle.vx_base.proofs.Refused.{Gives-weaker}
use Rattle.vx_views.specs.BuildFaults.{differences}
use Rattle.vx_views.proofs.Differences.{length_differences, number_at_differences, IfSome-at, made_more}
use Rattle.vx_views.proofs.NativeRanges.{wide-cast}
use Rattle.vx_views.proofs.OffsetFacts.{rising-natural}
use Rattle.vx_views.proofs.build.offsets_to_lengths.Goals as goal

pub unwrap-requires : goal.unwrap-requires
unwrap-requires g c =
    let offsets = map g.P.Number.value c.args.offsets.now in
    let long : length offsets ≡ length c.args.offsets.now = length-map c.args.offsets.now g.P.Number.value in
    let row_in : c.loop-row.row + 1 < length offsets = omega arith in
    let holds : Holds g.P.NativePType.PTYPE c.difference.result = c.difference.ensures.holds (rising-natural offsets c.requires.natural c.requires.rising c.loop-row.row (omega arith)) (c.requires.rising c.loop-row.row row_in) in
    let wide : FitsSigned w128 c.difference.result = search rules in
    c.from_i128.ensures.some.1 (subst (Holds g.P.NativePType.PTYPE) (sym (wide-cast c.difference.result wide)) holds)

pub loop-row-preserved : goal.loop-row-preserved
loop-row-preserved g c =
    let offsets = map g.P.Number.value c.args.offsets.now in
    let long : length offsets ≡ length c.args.offsets.now = length-map c.args.offsets.now g.P.Number.value in
    let row_in : c.loop-row.row + 1 < length offsets = omega arith in
    let wide : FitsSigned w128 c.difference.result = search rules in
    let is : g.P.Number.value c.unwrap.result ≡ number_nth (differences offsets) c.loop-row.row =
    IfSome-at (λ x. g.P.Number.value x ≡ c.difference.result) c.from_i128.result c.unwrap.result c.unwrap.ensures (subst (λ z. IfSome c.from_i128.result (λ x. g.P.Number.value x ≡ z)) (wide-cast c.difference.result wide) c.from_i128.ensures.value)
    ∙ c.difference.ensures.value ∙ sym (number_at_differences offsets c.loop-row.row row_in) in
    made_more g.P.Number.value c.loop-row.lengths.items _ c.unwrap.result (differences offsets) c.loop-row.row (search rules) c.loop-row.invariant (omega (arith, length_differences offsets)) is

pub returns : goal.returns
returns g c =
    let offsets = map g.P.Number.value c.args.offsets.now in
    let long : length offsets ≡ length c.args.offsets.now = length-map c.args.offsets.now g.P.Number.value in
    let all : take c.loop-row.row (differences offsets) ≡ differences offsets = take_all c.loop-row.row (differences offsets) (omega (arith, length_differences offsets)) in
    Gives-weaker c.from_vec.result (λ b. b ≡ c.loop-row.lengths.items) (λ b. map g.P.Number.value b ≡ differences offsets) (λ b e. ap (map g.P.Number.value) e ∙ c.loop-row.invariant ∙ all) c.from_vec.ensures

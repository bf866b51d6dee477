use Rattle.std.proofs.Common.{◌≡◌, ◌<◌, ◌+◌, IsTrue, IfNone, IfSome, pos, length, map, FitsSigned, arith, rules, sym, ◌∙◌, subst}
use Rattle.std.specs.Int.{w128, is_negative}
use Rattle.vx_views.proofs.NativeRanges.{wide-cast}
use Rattle.std.proofs.lemmas.List.{length-map}
use Rattle.vx_views.specs.BuildFaults.{differences}
use Rattle.vx_base.specs.Integers.{number_nth}
use Rattle.vx_views.proofs.Differences.{length_differences, number_at_differences}
use Rattle.vx_views.proofs.lengths.OffsetLengthsLengths.length_at.Goals as goal

pub difference-requires : goal.difference-requires
difference-requires g c = omega (arith, length_differences (map g.P.Number.value c.args.self.now.0.now), length-map c.args.self.now.0.now g.P.Number.value)

pub returns : goal.returns
returns g c =
    let offsets = map g.P.Number.value c.args.self.now.0.now in
    let row_in : c.args.row + 1 < length offsets = omega (arith, length_differences offsets) in
    let is : c.difference.result ≡ number_nth (differences offsets) c.args.row = c.difference.ensures.value ∙ sym (number_at_differences offsets c.args.row row_in) in
    let wide : FitsSigned w128 c.difference.result = search rules in
    let same = wide-cast c.difference.result wide ∙ is in
    record {
      negative = subst (λ z. IfNone c.as_length.result (IsTrue (is_negative z))) same c.as_length.ensures.negative;
      length = subst (λ z. IfSome c.as_length.result (λ n. z ≡ pos n)) same c.as_length.ensures.length;
    }

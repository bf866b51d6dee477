use Rattle.std.proofs.Common.{◌≡◌, ◌<◌, IsTrue, IfNone, IfSome, pos, length, map, get_or, sym, subst, arith}
use Rattle.std.specs.Int.{is_negative}
use Rattle.std.proofs.lemmas.List.{length-map, get_or-map}
use Rattle.vx_base.specs.Integers.{number_nth}
use Rattle.vx_views.proofs.lengths.RowLengthsLengths.length_at.Goals as goal

pub bounds-self-row : goal.bounds-self-row
bounds-self-row g c = omega (arith, length-map c.args.self.now.0.now g.P.Number.value)

pub returns : goal.returns
returns g c =
    let items = c.args.self.now.0.now in
    let row_in : c.args.row < length items = omega (arith, length-map items g.P.Number.value) in
    let is : number_nth (map g.P.Number.value items) c.args.row ≡ g.P.Number.value (get_or items c.args.row c.index-self-row.result) = get_or-map g.P.Number.value items c.args.row c.index-self-row.result (pos 0) row_in in
    record {
      negative = subst (λ z. IfNone c.natural.result (IsTrue (is_negative z))) (sym is) c.natural.ensures.negative;
      length = subst (λ z. IfSome c.natural.result (λ n. z ≡ pos n)) (sym is) c.natural.ensures.length;
    }

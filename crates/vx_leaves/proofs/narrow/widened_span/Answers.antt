use Rattle.std.proofs.Common.{◌≡◌, ◌+◌, ◌-◌, ◌∷◌, ◌++◌, [], map, sym, ap, ◌∙◌, subst, append_assoc, arith}
use Rattle.std.specs.List.{range_with_len}
use Rattle.std.proofs.lemmas.List.FromFn.{map-range_with_len_more}
use Rattle.vx_base.specs.Integers.{numbers, number_nth}
use Rattle.vx_base.proofs.NumberLists.{number_room}
use Rattle.vx_leaves.specs.Narrow.{IsSpan}
use Rattle.vx_leaves.proofs.NarrowedTypes.{IsSpan-more}
use Rattle.vx_leaves.proofs.narrow.widened_span.Goals as goal

pub read_number-number-requires : goal.read_number-number-requires
read_number-number-requires g c = number_room g.T.NativePType.PTYPE c.args.bytes.now c.loop-row.row (omega (arith, c.requires.here))

pub loop-row-preserved : goal.loop-row-preserved
loop-row-preserved g c = λ zs span.
    let t = g.T.NativePType.PTYPE in
    let value = g.T.Number.value in
    let f = number_nth (numbers t c.args.bytes.now) in
    let a = c.args.run.0 in
    let row = c.loop-row.row in
    let x = value c.read_number-number.result in
    let m = value c.lesser-least.result in
    let k = value c.greater-greatest.result in
    let low = c.loop-row.auto.row in
    let place : a + (row - a) ≡ row = omega (arith, low) in
    let size : row - a + 1 ≡ row + 1 - a = omega (arith, low) in
    let old = zs ++ map f (range_with_len a (row - a)) in
    let more = IsSpan-more t old x (value c.loop-row.least) (value c.loop-row.greatest) m k (c.loop-row.invariant zs span) c.lesser-least.ensures c.greater-greatest.ensures in
    let list : old ++ x ∷ [] ≡ zs ++ map f (range_with_len a (row + 1 - a)) =
    append_assoc zs (map f (range_with_len a (row - a))) (x ∷ [])
    ∙ ap (λ z. zs ++ (map f (range_with_len a (row - a)) ++ z ∷ [])) c.read_number-number.ensures
    ∙ ap (λ ys. zs ++ ys) (sym (map-range_with_len_more f a (row - a) row place) ∙ ap (λ n. map f (range_with_len a n)) size) in
    subst (λ ys. IsSpan t ys m k) list more

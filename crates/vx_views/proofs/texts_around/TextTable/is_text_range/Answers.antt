use Rattle.std.proofs.Common.{◌≡◌, ◌*◌, ◌<◌, length, ap, arith, inl, inr, subst, sym, ◌∙◌}
use Rattle.std.specs.Prelude.{slice_index_or}
use Rattle.std.proofs.lemmas.Grind.{div_ceil_times}
use Rattle.std.proofs.lemmas.List.{get_or_default}
use Rattle.vx_views.specs.TextsAround.{IsTextAround}
use Rattle.vx_views.proofs.TextsAround.{told_within, told_past}
use Rattle.vx_views.proofs.texts_around.TextTable.is_text_range.Goals as goal

pub returns-then-range-start : goal.returns-then-range-start
returns-then-range-start c =
    let bytes = c.args.bytes.now in
    let place = c.div_ceil-place.result in
    let table = c.self.inside.ranges.items in
    let inside : place < length table = omega (arith, c.if-len-place.false, c.len.ensures, c.self.inside.ranges.ok) in
    let same : slice_index_or c.args.self.now place (0, 0) ≡ c.index.result.now =
    ap (λ t. slice_index_or t place (0, 0)) (sym c.self.view_is) ∙ get_or_default table place (0, 0) c.index.result.now inside ∙ sym c.index.ensures in
    let around = subst (IsTextAround bytes (64 * place)) same (c.requires.table place (omega (arith, inside, ap length c.self.view_is))) in
    let up = (div_ceil_times c.args.range.start 64 (omega arith)).0 in
    told_past bytes (64 * place) c.args.range.start c.args.range.end c.index.result.now around (omega (arith, up, c.div_ceil-place.ensures)) c.if-range-place.false c.requires.within
    (elim c.then-range-start.either [ inl before ↦ inl before | inr after ↦ inr after.1 ])

pub returns : goal.returns
returns c =
    let bytes = c.args.bytes.now in
    let place = c.div_ceil-place.result in
    let table = c.self.inside.ranges.items in
    let inside : place < length table = omega (arith, c.if-len-place.false, c.len.ensures, c.self.inside.ranges.ok) in
    let same : slice_index_or c.args.self.now place (0, 0) ≡ c.index.result.now =
    ap (λ t. slice_index_or t place (0, 0)) (sym c.self.view_is) ∙ get_or_default table place (0, 0) c.index.result.now inside ∙ sym c.index.ensures in
    let around = subst (IsTextAround bytes (64 * place)) same (c.requires.table place (omega (arith, inside, ap length c.self.view_is))) in
    told_within bytes (64 * place) c.args.range.start c.args.range.end c.index.result.now c.is_text_range.result around c.if-range-start.false c.if-end-range.false c.is_text_range.ensures

use Rattle.std.proofs.Common.{◌≡◌, ◌+◌, length, ap, sym, ◌∙◌, arith}
use Rattle.std.proofs.lemmas.List.{length_push}
use Rattle.vx_tree.specs.Meaning.{nullable, row_at}
use Rattle.vx_tree.specs.Parts.{valid_of}
use Rattle.vx_tree.specs.Values.{bytes_in}
use Rattle.vx_uses.proofs.ReadTexts.{one_text_more, texts_are_read}
use Rattle.vx_uses.proofs.foreign_texts.foreign_texts.Goals as goal

pub loop-row-preserved : goal.loop-row-preserved
loop-row-preserved c =
    let found = c.loop-row.found.items in
    let next = c.push.new.self.items in
    let x = c.in_ok-owned.field-0 in
    let kept = c.loop-row.invariant in
    let same = c.in_ok-push.ensures.items in
    record {
      len = ap length same ∙ length_push found x ∙ ap (λ n. n + 1) kept.len;
      each = one_text_more c.column.inside.array c.loop-row.row found next x same kept.len kept.each
          (c.in_ok-owned.ensures ∙ c.text_at.ensures ∙ ap (λ t. bytes_in (row_at t c.loop-row.row)) (sym c.column.view_is));
    }

pub returns-clause-texts : goal.returns-clause-texts
returns-clause-texts c =
    let v = valid_of c.args.validity.now in
    let t = c.in_ok-column.column in
    let made = c.in_ok-column.ensures in
    let all : c.loop-row.row ≡ length c.args.views.now = omega (arith, made.len) in
    texts_are_read c.args.views.now c.args.buffers.now v (nullable v) t c.loop-row.found.items made.rows (c.loop-row.invariant.len ∙ all)
    (λ i inside. c.loop-row.invariant.each i (omega (arith, all)) ∙ ap (λ u. bytes_in (row_at u i)) c.column.view_is)

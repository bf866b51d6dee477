use Rattle.std.proofs.Common.{◌≡◌, ◌≤◌, ◌*◌, false, [], ap, arith, length, subst, sym, ◌∙◌}
use Rattle.std.proofs.lemmas.Bool.{false≢true}
use Rattle.std.proofs.lemmas.List.{get_or_default}
use Rattle.vx_base.specs.Bits.{bool_at}
use Rattle.vx_views.specs.TextsAround.{AreTextsAround}
use Rattle.vx_views.specs.Views.{buffer_at}
use Rattle.vx_views.proofs.TextsAround.{tables_more, reach_more, none_around}
use Rattle.vx_views.proofs.texts_around.text_tables.Goals.{then-texts-block, else-texts-block+in_ok-table}
use Rattle.vx_views.proofs.texts_around.text_tables.Goals as goal

pub loop-block-preserved : goal.loop-block-preserved
loop-block-preserved c =
    let buffers = c.args.buffers.now in
    let block = c.loop-block.block in
    let read = c.index-buffers-block.is ∙ sym (get_or_default buffers block [] c.index-buffers-block.result (omega arith)) in
    let here : AreTextsAround (buffer_at buffers block) c.if-texts-block.table =
    elim c.if-texts-block.branch [
      | then-texts-block w ↦ none_around (buffer_at buffers block) c.if-texts-block.table (ap length w.table-is ∙ w.empty-table.ensures)
      | else-texts-block+in_ok-table w ↦ subst (λ bs. AreTextsAround bs c.if-texts-block.table) (w.as_slice.ensures.value ∙ read) (subst (AreTextsAround w.as_slice.result.now) (sym w.table-is) w.in_ok-table.ensures.around)
    ] in
    let reached : bool_at c.args.texts.now block ≡ false → length (buffer_at buffers block) ≤ 64 * length c.if-texts-block.table =
    elim c.if-texts-block.branch [
      | then-texts-block w ↦ λ unread. absurd (false≢true (sym unread ∙ w.if-texts-block.true))
      | else-texts-block+in_ok-table w ↦ λ _. omega (arith, w.in_ok-table.ensures.all, ap length w.as_slice.ensures.value, ap length read, ap length w.table-is)
    ] in
    rw c.in_ok-push.ensures.items (
      tables_more buffers c.loop-block.tables.items block c.if-texts-block.table c.loop-block.invariant.0 c.loop-block.invariant.1.len here,
      reach_more c.args.texts.now buffers c.loop-block.tables.items block c.if-texts-block.table c.loop-block.invariant.1 reached,
    )

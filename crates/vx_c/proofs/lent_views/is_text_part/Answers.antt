use Rattle.std.proofs.Common.{◌≡◌, ◌<◌, ◌∙◌, length, refl, sym, ap, subst, IsUtf8, arith}
use Rattle.std.specs.Prelude.{slice_index_or}
use Rattle.std.proofs.lemmas.List.{length-map}
use Rattle.vx_views.specs.Views.{view_block, buffer_at}
use Rattle.vx_c.specs.declared.table.CodraskBytes.{CodraskBytes}
use Rattle.vx_c.specs.LentBuffers.{bytes_in}
use Rattle.vx_c.proofs.LentViews.{no_bytes, read_buffer, text_is_sound}
use Rattle.vx_c.proofs.lent_views.is_text_part.Goals as goal

pub is_text_range-requires-clause-text : goal.is_text_range-requires-clause-text
is_text_range-requires-clause-text c =
    let buffers = c.args.buffers.now in
    let block = view_block c.args.view.now in
    let there : block < length buffers = omega (arith, (c.requires.sound.resolves c.requires.long).0, length-map buffers (λ (b : CodraskBytes). b.bytes.now)) in
    let read = read_buffer buffers block there in
    subst IsUtf8 (rw c.as_view-parts.ensures read) (c.requires.texts block there)

pub returns : goal.returns
returns c = λ told.
    let buffers = c.args.buffers.now in
    let view = c.args.view.now in
    let block = view_block view in
    let there : block < length buffers = omega (arith, (c.requires.sound.resolves c.requires.long).0, length-map buffers (λ (b : CodraskBytes). b.bytes.now)) in
    let named = c.as_view-parts.result.buffer_index in
    let number : named ≡ block = rw c.as_view-parts.ensures refl in
    let bytes = (slice_index_or buffers named no_bytes).bytes.now in
    let read : buffer_at (bytes_in buffers) block ≡ bytes = read_buffer buffers block there ∙ ap (λ k. (slice_index_or buffers k no_bytes).bytes.now) (sym number) in
    text_is_sound (bytes_in buffers) view bytes c.as_range.result.start c.as_range.result.end c.requires.long c.requires.sound read
    (rw c.as_view-parts.ensures at c.as_range.ensures.start) (rw c.as_view-parts.ensures at c.as_range.ensures.end) (c.is_text_range.ensures told)

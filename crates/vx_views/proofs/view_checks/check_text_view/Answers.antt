use Rattle.std.proofs.Common.{◌≡◌, ◌<◌, ◌↔◌, true, refl, inr, sym, ◌∙◌, subst, IsUtf8, slice_range}
use Rattle.std.specs.Prelude.{IsTrue}
use Rattle.std.proofs.lemmas.Bool.{false≢true, leb-false}
use Rattle.vx_views.specs.Views.{view_size, view_value}
use Rattle.vx_views.specs.declared.view.TheConstants.{MAX_INLINED_SIZE}
use Rattle.vx_views.proofs.AloneViews.{range_is}
use Rattle.vx_views.proofs.FaultyViews.{placed_there, view_fault-placed, text_fault_found, text_fault_none}
use Rattle.vx_views.proofs.view_checks.check_text_view.Goals.{then-texts-block, else-texts-block}
use Rattle.vx_views.proofs.view_checks.check_text_view.Goals as goal

pub returns-then-not-is_text-clause-tests : goal.returns-then-not-is_text-clause-tests
returns-then-not-is_text-clause-tests c =
    let buffers = c.args.buffers.now in
    let view = c.args.view.now in
    let bytes = c.as_slice-bytes.result.now in
    let range = c.as_range-range.result in
    let long : MAX_INLINED_SIZE < view_size view = leb-false (view_size view) MAX_INLINED_SIZE (sym c.is_inlined.ensures ∙ c.if-is_inlined.false) in
    let same : view_value buffers view ≡ slice_range bytes range.start range.end =
    range_is buffers view bytes range.start range.end long (placed_there buffers view c.args.row c.in_ok-value_at.ensures.tests)
    (rw c.as_slice-bytes.ensures.value (rw c.as_view-parts.ensures at c.index-buffers-block.is)) (rw c.as_view-parts.ensures at c.as_range-range.ensures.start) (rw c.as_view-parts.ensures at c.as_range-range.ensures.end) in
    let tells : IsTrue c.if-texts-block.is_text ↔ IsUtf8 (slice_range bytes range.start range.end) =
    elim c.if-texts-block.branch [
      | then-texts-block w ↦ rw w.is_text-is w.is_text_range-is_text.ensures
      | else-texts-block w ↦ rw w.is_text-is w.is_text_at-is_text.ensures
    ] in (
      refl,
      view_fault-placed buffers view c.args.row c.in_ok-value_at.ensures.tests
          ∙ text_fault_found true (view_value buffers view) c.args.row refl (λ text. false≢true (sym c.if-not-is_text.true ∙ tells.1 (subst IsUtf8 same text))),
    )

pub returns-clause-tests : goal.returns-clause-tests
returns-clause-tests c =
    let buffers = c.args.buffers.now in
    let view = c.args.view.now in
    let bytes = c.as_slice-bytes.result.now in
    let range = c.as_range-range.result in
    let long : MAX_INLINED_SIZE < view_size view = leb-false (view_size view) MAX_INLINED_SIZE (sym c.is_inlined.ensures ∙ c.if-is_inlined.false) in
    let same : view_value buffers view ≡ slice_range bytes range.start range.end =
    range_is buffers view bytes range.start range.end long (placed_there buffers view c.args.row c.in_ok-value_at.ensures.tests)
    (rw c.as_slice-bytes.ensures.value (rw c.as_view-parts.ensures at c.index-buffers-block.is)) (rw c.as_view-parts.ensures at c.as_range-range.ensures.start) (rw c.as_view-parts.ensures at c.as_range-range.ensures.end) in
    let tells : IsTrue c.if-texts-block.is_text ↔ IsUtf8 (slice_range bytes range.start range.end) =
    elim c.if-texts-block.branch [
      | then-texts-block w ↦ rw w.is_text-is w.is_text_range-is_text.ensures
      | else-texts-block w ↦ rw w.is_text-is w.is_text_at-is_text.ensures
    ] in
    view_fault-placed buffers view c.args.row c.in_ok-value_at.ensures.tests
    ∙ text_fault_none true (view_value buffers view) c.args.row (inr (subst IsUtf8 (sym same) (tells.0 c.if-not-is_text.false)))

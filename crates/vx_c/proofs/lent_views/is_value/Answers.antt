use Rattle.std.proofs.Common.{◌∙◌, ◌≤◌, sym, false}
use Rattle.std.proofs.lemmas.Bool.{leb-true, false≢true}
use Rattle.vx_views.specs.Views.{view_size}
use Rattle.vx_views.specs.declared.view.TheConstants.{MAX_INLINED_SIZE}
use Rattle.vx_c.specs.LentBuffers.{bytes_in}
use Rattle.vx_c.proofs.LentViews.{held_is_sound}
use Rattle.vx_c.proofs.lent_views.is_value.Goals as goal

pub returns-then-is_inlined : goal.returns-then-is_inlined
returns-then-is_inlined c = λ told.
    let short : view_size c.args.view.now ≤ MAX_INLINED_SIZE = leb-true (view_size c.args.view.now) MAX_INLINED_SIZE (sym c.is_inlined.ensures ∙ c.if-is_inlined.true) in
    held_is_sound (bytes_in c.args.buffers.now) false c.args.view.now short (λ on. absurd (false≢true on))

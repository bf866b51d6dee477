use Rattle.std.proofs.Common.{get_or, ap, ◌∙◌}
use Rattle.std.proofs.lemmas.Bool.{le-leb, lt-leb}
use mir.Val.{bool_byte}
use Rattle.vx_views.specs.Views.{view_size}
use Rattle.vx_views.specs.declared.view.TheConstants.{MAX_INLINED_SIZE}
use Rattle.vx_canonical.proofs.layouts.var_bin_view.step_of.Goals as goal

pub returns-clause-held : goal.returns-clause-held
returns-clause-held c = λ short.
    ap (λ n. get_or c.args.steps.now n 0) (c.from.ensures ∙ ap bool_byte (c.is_inlined.ensures ∙ le-leb (view_size c.args.view.now) MAX_INLINED_SIZE short))

pub returns-clause-refers : goal.returns-clause-refers
returns-clause-refers c = λ long.
    ap (λ n. get_or c.args.steps.now n 0) (c.from.ensures ∙ ap bool_byte (c.is_inlined.ensures ∙ lt-leb (view_size c.args.view.now) MAX_INLINED_SIZE long))

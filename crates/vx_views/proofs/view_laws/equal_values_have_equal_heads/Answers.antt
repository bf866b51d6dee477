use Rattle.std.proofs.Common.{◌∙◌, sym, ap}
use Rattle.vx_views.specs.Views.{head_of}
use Rattle.vx_views.proofs.Places.{head_of_view}
use Rattle.vx_views.proofs.view_laws.equal_values_have_equal_heads.Goals as goal

pub returns : goal.returns
returns c = λ a b block offset other_block other_offset short same.
    head_of_view a block offset short ∙ ap head_of same ∙ sym (head_of_view b other_block other_offset (rw (← same) short))

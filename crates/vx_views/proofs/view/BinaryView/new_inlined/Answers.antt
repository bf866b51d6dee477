use Rattle.std.proofs.Common.{List, ℕ, ◌++◌, ◌∙◌, ap, length}
use Rattle.std.specs.Int.{w32, to_le_bytes}
use Rattle.vx_views.specs.Views.{inlined_view}
use Rattle.vx_views.proofs.Shifts.{joined_halves, twelve_of}
use Rattle.vx_views.proofs.view.BinaryView.new_inlined.Goals as goal

pub returns : goal.returns
unfolding inlined_view
returns c =
    let value = c.args.value.now in
    c.joined.ensures.joined
    ∙ joined_halves c.to_le_bytes.result c.prefix_of.result _ c.rest_of-rest.result c.rest_of-rest.ensures
    ∙ rw (c.to_le_bytes.ensures, c.prefix_of.ensures, c.rest_of-rest.ensures) (ap (λ (rest : List ℕ). to_le_bytes w32 (length value) ++ rest) (twelve_of value))

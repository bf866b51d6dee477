use Rattle.std.proofs.Common.{[], sym}
use Rattle.vx_views.specs.Cut.{IsCut}
use Rattle.vx_views.proofs.CutNextValue.{no_pieces}
use Rattle.vx_views.proofs.cut_laws.empty_heap_has_one_cut.Goals as goal

pub returns : goal.returns
returns c = λ limit lens ends none. (λ cut. no_pieces limit lens ends none cut.pieces, λ e. rw e (let cut : IsCut limit lens [] = record { pieces = sym none } in cut))

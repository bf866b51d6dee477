use Rattle.std.proofs.Common.{refl}
use Rattle.vx_views.proofs.CutPieces.{longest_same}
use Rattle.vx_views.proofs.cut_laws.maximal_cut_is_one.Goals as goal

pub returns : goal.returns
returns c = λ limit lens ends others a b.
    longest_same limit lens ends others 0 0 refl a.cut.pieces a.longest b.cut.pieces b.longest

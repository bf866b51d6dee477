use Rattle.std.proofs.Common.{sum, arith}
use Rattle.vx_views.proofs.CutPieces.{longest_ahead}
use Rattle.vx_views.proofs.cut_laws.maximal_cut_is_fewest.Goals as goal

pub returns : goal.returns
returns c = λ limit lens ends m. record {
  cut = m.cut;
  fewest = λ others other. longest_ahead limit lens ends others 0 0 (sum lens) (omega arith) (omega arith) m.cut.pieces m.longest other.pieces;
}

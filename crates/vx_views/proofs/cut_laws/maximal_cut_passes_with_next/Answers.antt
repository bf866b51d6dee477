use Rattle.std.proofs.Common.{sum}
use Rattle.vx_views.proofs.CutNextValue.{AreLongest-passes, AreLongest-from_passes}
use Rattle.vx_views.proofs.cut_laws.maximal_cut_passes_with_next.Goals as goal

pub returns : goal.returns
returns c = λ limit lens ends cut. (
  λ m. AreLongest-passes limit lens 0 ends (sum lens) cut.pieces m.longest,
  λ passes. record { cut = cut; longest = AreLongest-from_passes limit lens 0 ends cut.pieces passes },
)

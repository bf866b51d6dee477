use Rattle.vx_views.proofs.CutOpen.{some_maximal}
use Rattle.vx_views.proofs.cut_laws.maximal_cut_exists.Goals as goal

pub returns : goal.returns
returns c = λ limit lens small. some_maximal limit lens small

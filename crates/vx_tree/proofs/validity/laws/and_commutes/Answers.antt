use Rattle.vx_tree.proofs.Validities.{pairs_commute}
use Rattle.vx_tree.proofs.validity.laws.and_commutes.Goals as goal

pub returns : goal.returns
returns c = pairs_commute

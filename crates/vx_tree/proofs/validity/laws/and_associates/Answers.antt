use Rattle.vx_tree.proofs.Validities.{pairs_associate}
use Rattle.vx_tree.proofs.validity.laws.and_associates.Goals as goal

pub returns : goal.returns
returns c = pairs_associate

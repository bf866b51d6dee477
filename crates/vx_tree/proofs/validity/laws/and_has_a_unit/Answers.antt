use Rattle.vx_tree.proofs.Validities.{pairs_have_unit}
use Rattle.vx_tree.proofs.validity.laws.and_has_a_unit.Goals as goal

pub returns : goal.returns
returns c = pairs_have_unit

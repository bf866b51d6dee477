use Rattle.vx_tree.proofs.Validities.{trivial_casts}
use Rattle.vx_tree.proofs.validity.laws.trivial_casts_are_casts.Goals as goal

pub returns : goal.returns
returns c = trivial_casts

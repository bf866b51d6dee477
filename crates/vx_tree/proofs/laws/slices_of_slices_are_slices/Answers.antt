use Rattle.vx_tree.proofs.Composed.{slices_compose}
use Rattle.vx_tree.proofs.laws.slices_of_slices_are_slices.Goals as goal

pub returns : goal.returns
returns c = slices_compose

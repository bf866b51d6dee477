use Rattle.vx_tree.proofs.Composed.{selections_compose}
use Rattle.vx_tree.proofs.laws.selections_of_selections_are_selections.Goals as goal

pub returns : goal.returns
returns c = selections_compose

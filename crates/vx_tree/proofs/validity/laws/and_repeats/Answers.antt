use Rattle.vx_tree.proofs.Validities.{pairs_repeat}
use Rattle.vx_tree.proofs.validity.laws.and_repeats.Goals as goal

pub returns : goal.returns
returns c = pairs_repeat

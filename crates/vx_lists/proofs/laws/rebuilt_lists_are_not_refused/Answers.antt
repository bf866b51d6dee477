use Rattle.vx_lists.proofs.ListViews.RebuiltTwice.{rebuilt_not_refused}
use Rattle.vx_lists.proofs.laws.rebuilt_lists_are_not_refused.Goals as goal

pub returns : goal.returns
returns c = rebuilt_not_refused

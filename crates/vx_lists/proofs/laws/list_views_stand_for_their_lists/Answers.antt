use Rattle.vx_lists.proofs.ListViews.ViewLayouts.{stands_for_lists}
use Rattle.vx_lists.proofs.laws.list_views_stand_for_their_lists.Goals as goal

pub returns : goal.returns
returns c = stands_for_lists

use Rattle.vx_lists.proofs.ListViews.CanonicalRows.{length-flat_map-items_of}
use Rattle.vx_lists.proofs.laws.joined_lists_have_all_elements.Goals as goal

pub returns : goal.returns
returns g c = length-flat_map-items_of

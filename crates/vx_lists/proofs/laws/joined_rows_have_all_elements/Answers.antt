use Rattle.vx_lists.proofs.ListViews.CanonicalRows.{length-flat_map-items_of}
use Rattle.vx_lists.proofs.laws.joined_rows_have_all_elements.Goals as goal

pub returns : goal.returns
returns c = length-flat_map-items_of

use Rattle.vx_tree.proofs.RowLists.{rows_by_place}
use Rattle.vx_tree.proofs.row_laws.rows_are_equal_by_place.Goals as goal

pub returns : goal.returns
returns c = rows_by_place

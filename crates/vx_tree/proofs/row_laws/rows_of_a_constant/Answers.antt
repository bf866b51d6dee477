use Rattle.vx_tree.proofs.RowLists.{rows-constant}
use Rattle.vx_tree.proofs.row_laws.rows_of_a_constant.Goals as goal

pub returns : goal.returns
returns c = rows-constant

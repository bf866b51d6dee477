use Rattle.vx_tree.proofs.RowLists.{length-rows, get_or-rows}
use Rattle.vx_tree.proofs.row_laws.rows_stand_at_their_places.Goals as goal

pub returns-clause-len : goal.returns-clause-len
returns-clause-len c = length-rows

pub returns-clause-each : goal.returns-clause-each
returns-clause-each c = get_or-rows

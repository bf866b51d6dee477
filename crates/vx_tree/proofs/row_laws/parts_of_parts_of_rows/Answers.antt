use Rattle.vx_tree.proofs.RowLists.{part_of_part_by_ends}
use Rattle.vx_tree.proofs.row_laws.parts_of_parts_of_rows.Goals as goal

pub returns : goal.returns
returns c = part_of_part_by_ends

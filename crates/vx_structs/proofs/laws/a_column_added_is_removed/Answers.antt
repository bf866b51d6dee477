use Rattle.vx_structs.proofs.Structs.ColumnRows.{added_is_removed}
use Rattle.vx_structs.proofs.laws.a_column_added_is_removed.Goals as goal

pub returns : goal.returns
returns c = added_is_removed

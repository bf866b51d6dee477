use Rattle.vx_c.proofs.TablesRead.{tables_read_back}
use Rattle.vx_c.proofs.laws.tables_of_plain_arrays_are_read.Goals as goal

pub returns : goal.returns
returns c = tables_read_back

use Rattle.vx_c.proofs.PackedTables.{packed_tables_same}
use Rattle.vx_c.proofs.laws.packed_rows_go_out_as_equal_bytes.Goals as goal

pub returns : goal.returns
returns c = packed_tables_same

use Rattle.vx_c.proofs.ExactRuns.{exact_same}
use Rattle.vx_c.proofs.laws.exact_tables_of_a_column_are_the_same.Goals as goal

pub returns : goal.returns
returns c = exact_same

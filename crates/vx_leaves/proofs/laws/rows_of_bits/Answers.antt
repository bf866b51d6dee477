use Rattle.vx_leaves.proofs.MaskedRows.{rows-bools, rows-bools-all}
use Rattle.vx_leaves.proofs.laws.rows_of_bits.Goals as goal

pub returns-clause-masked : goal.returns-clause-masked
returns-clause-masked c = rows-bools

pub returns-clause-all : goal.returns-clause-all
returns-clause-all c = rows-bools-all

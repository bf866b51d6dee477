use Rattle.vx_leaves.proofs.MaskedRows.{IsPrimitive-len, IsPrimitive-each, IsPrimitive-masked, IsPrimitive-all}
use Rattle.vx_leaves.proofs.laws.rows_of_numbers.Goals as goal

pub returns-clause-len : goal.returns-clause-len
returns-clause-len c = IsPrimitive-len

pub returns-clause-each : goal.returns-clause-each
returns-clause-each c = IsPrimitive-each

pub returns-clause-masked : goal.returns-clause-masked
returns-clause-masked c = IsPrimitive-masked

pub returns-clause-all : goal.returns-clause-all
returns-clause-all c = IsPrimitive-all

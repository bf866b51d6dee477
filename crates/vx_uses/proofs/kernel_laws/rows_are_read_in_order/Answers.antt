use Rattle.vx_uses.proofs.ReadRows.{counted, told, all_read}
use Rattle.vx_uses.proofs.kernel_laws.rows_are_read_in_order.Goals as goal

pub returns-clause-counted : goal.returns-clause-counted
returns-clause-counted c = counted

pub returns-clause-told : goal.returns-clause-told
returns-clause-told c = told

pub returns-clause-all : goal.returns-clause-all
returns-clause-all c = all_read

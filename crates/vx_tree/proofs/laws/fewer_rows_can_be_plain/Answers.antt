use Rattle.vx_tree.proofs.PlainCounts.{as_faulty, fewer_plain}
use Rattle.vx_tree.proofs.laws.fewer_rows_can_be_plain.Goals as goal

pub returns-clause-as_many : goal.returns-clause-as_many
returns-clause-as_many c = as_faulty

pub returns-clause-fewer : goal.returns-clause-fewer
returns-clause-fewer c = fewer_plain

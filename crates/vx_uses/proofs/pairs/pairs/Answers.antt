use Rattle.vx_uses.proofs.RowPairs.{pair_rows}
use Rattle.vx_uses.proofs.pairs.pairs.Goals as goal

pub returns-clause-rows : goal.returns-clause-rows
returns-clause-rows c = λ i inside. pair_rows c.args.column c.in_ok-from_parts.field-0 _ i c.in_ok-from_parts.ensures

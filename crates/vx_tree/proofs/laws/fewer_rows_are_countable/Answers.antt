use Rattle.vx_tree.proofs.Counted.{take_overflow-fewer}
use Rattle.vx_tree.proofs.laws.fewer_rows_are_countable.Goals as goal

pub returns : goal.returns
returns c = take_overflow-fewer c.args.array.now c.known.ensures

use Rattle.std.proofs.Common.{arith}
use Rattle.vx_tree.proofs.Masks.{AreTruths-all}
use Rattle.vx_tree.proofs.array.ArrayRef.fill_truths.Goals as goal

pub returns : goal.returns
returns c = AreTruths-all c.args.self.now c.loop-row.row c.loop-row.out (omega arith) c.loop-row.invariant

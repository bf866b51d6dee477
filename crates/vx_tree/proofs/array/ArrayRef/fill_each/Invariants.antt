use Rattle.vx_tree.proofs.Positions.{AreRead}
use Rattle.vx_tree.proofs.array.ArrayRef.fill_each.Given as goal

abbrev pub invariant-loop-row : goal.invariant-loop-row
invariant-loop-row l = AreRead l.self l.len l.row l.out

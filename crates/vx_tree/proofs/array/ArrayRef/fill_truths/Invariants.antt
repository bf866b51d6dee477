use Rattle.vx_tree.proofs.Masks.{AreTruths}
use Rattle.vx_tree.proofs.array.ArrayRef.fill_truths.Given as goal

abbrev pub invariant-loop-row : goal.invariant-loop-row
invariant-loop-row l = AreTruths l.self l.row l.out

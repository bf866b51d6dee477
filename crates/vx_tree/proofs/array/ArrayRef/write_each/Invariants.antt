use Rattle.vx_tree.proofs.Patched.{AreWritten}
use Rattle.vx_tree.proofs.array.ArrayRef.write_each.Given as goal

abbrev pub invariant-loop-row : goal.invariant-loop-row
invariant-loop-row l = AreWritten l.initial.out l.self l.offset l.values.bits l.row l.out

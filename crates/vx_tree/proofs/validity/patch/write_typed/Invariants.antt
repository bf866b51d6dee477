use Rattle.vx_tree.specs.Tree.{primitive, non_nullable}
use Rattle.vx_tree.proofs.Patched.{AreWritten}
use Rattle.vx_tree.proofs.validity.patch.write_typed.Given as goal

abbrev pub invariant-loop-row : goal.invariant-loop-row
invariant-loop-row g l = AreWritten l.initial.out (primitive g.T.NativePType.PTYPE l.bytes non_nullable) l.offset l.bits l.row l.out

use Rattle.vx_tree.specs.Tree.{primitive, non_nullable}
use Rattle.vx_tree.proofs.Positions.{AreRead}
use Rattle.vx_tree.proofs.indices.fill_plain.Given as goal

abbrev pub invariant-loop-row : goal.invariant-loop-row
invariant-loop-row g l = AreRead (primitive g.T.NativePType.PTYPE l.bytes non_nullable) l.len l.row l.out

use Rattle.std.proofs.Common.{List, reverse}
use Rattle.vx_tree.specs.Tree.{Tree}
use Rattle.vx_c.specs.Parts.{AreDescribed, AreTakenColumns}
use Rattle.vx_c.proofs.parts.take_columns.Given as goal

abbrev pub invariant-loop-taken : goal.invariant-loop-taken
invariant-loop-taken l = (ts : List Tree) → AreDescribed (reverse l.fn.parts.items) ts → AreTakenColumns l.taken l.len (reverse l.parts.items) ts

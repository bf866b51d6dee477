use Rattle.std.proofs.Common.{◌≡◌, take, map}
use Rattle.vx_tree.specs.Meaning.{rows}
use Rattle.vx_uses.specs.Uses.{is_above}
use Rattle.vx_uses.proofs.kernel.rows_above.Given as goal

abbrev pub invariant-loop-i : goal.invariant-loop-i
invariant-loop-i l = l.marks.items ≡ map (is_above l.bound) (take l.i (rows l.column))

use Rattle.vx_tree.specs.Meaning.{tree_len}
use Rattle.vx_uses.proofs.PickedRows.{AreLastFirst}
use Rattle.vx_uses.proofs.picked_rows.reversed.Given as goal

abbrev pub invariant-loop-i : goal.invariant-loop-i
invariant-loop-i l = AreLastFirst (tree_len l.column) l.i l.order.items

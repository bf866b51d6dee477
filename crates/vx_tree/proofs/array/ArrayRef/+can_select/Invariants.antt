use Rattle.std.proofs.Common.{◌≡◌, None, take}
use Rattle.vx_tree.specs.Meaning.{trees_from}
use Rattle.vx_tree.specs.Faults.{columns_overflow}
use Rattle.vx_tree.proofs.array.ArrayRef.+can_select.Given as goal

abbrev pub invariant-can_select_columns-loop-column : goal.invariant-can_select_columns-loop-column
invariant-can_select_columns-loop-column l = columns_overflow (trees_from (take l.column-index l.columns)) l.fn.count ≡ None

use Rattle.std.proofs.Common.{◌≡◌, None, take}
use Rattle.vx_tree.specs.Meaning.{trees_from}
use Rattle.vx_tree.specs.Faults.{columns_overflow}
use Rattle.vx_lists.proofs.list_view.totals.+is_countable.Given as goal

abbrev pub invariant-are_countable-loop-column : goal.invariant-are_countable-loop-column
invariant-are_countable-loop-column l = columns_overflow (trees_from (take l.column-index l.columns)) l.fn.count ≡ None

use Rattle.std.proofs.Common.{◌≡◌, map, take}
use Rattle.vx_base.specs.Rows.{rows_from}
use Rattle.vx_base.specs.ValueRows.{option_row, all_named}
use Rattle.vx_tree.specs.Meaning.{kind_of, row_at, rows_range, trees_from}
use Rattle.vx_tree.specs.Columns.{AreFields}
use Rattle.vx_tree.proofs.array.ArrayRef.+value.Given as goal

abbrev pub invariant-values_within-loop-i : goal.invariant-values_within-loop-i
invariant-values_within-loop-i l =
    all_named (kind_of l.self) (rows_from (map option_row l.values.items)) ≡ rows_range (row_at l.self) l.start l.i

abbrev pub invariant-column_values-loop-column : goal.invariant-column_values-loop-column
invariant-column_values-loop-column l = AreFields (trees_from (take l.column-index l.columns)) l.fn.i l.values.items

use Rattle.std.proofs.Common.{◌≡◌, ◌≤◌, map, take}
use Rattle.std.specs.Prelude.{count_by}
use Rattle.vx_base.specs.ValueRows.{option_row}
use Rattle.vx_tree.specs.RowParts.{is_long_row}
use Rattle.vx_canonical.proofs.kept_faults.count_long.Given as goal

abbrev pub invariant-loop-value : goal.invariant-loop-value
invariant-loop-value l = (l.count ≡ count_by is_long_row (take l.value-index (map option_row l.values))) × (l.count ≤ l.value-index)

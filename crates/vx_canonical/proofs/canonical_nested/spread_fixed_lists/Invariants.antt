use Rattle.std.proofs.Common.{◌≡◌, map, take}
use Rattle.std.specs.List.{flat_map}
use Rattle.vx_base.specs.ValueRows.{option_row}
use Rattle.vx_tree.specs.RowParts.{items_or_nulls}
use Rattle.vx_canonical.proofs.canonical_nested.spread_fixed_lists.Given as goal

abbrev pub invariant-loop-value : goal.invariant-loop-value
invariant-loop-value l = map option_row l.rows.items ≡ flat_map (items_or_nulls l.size) (map option_row (take l.value-index l.values))

use Rattle.std.proofs.Common.{◌≡◌, ◌+◌, ◌<◌, ◌^◌, length, map, drop}
use Rattle.std.specs.List.{flat_map}
use Rattle.vx_base.specs.ValueRows.{option_row}
use Rattle.vx_tree.specs.RowParts.{items_in}
use Rattle.vx_canonical.proofs.pieces.add_items.Given as goal

abbrev pub invariant-loop-value : goal.invariant-loop-value
invariant-loop-value l = (l.total + length (flat_map items_in (map option_row (drop l.value-index l.values)))
    ≡ l.fn.count + length (flat_map items_in (map option_row l.values))) × (l.total < 2 ^ 64)

use Rattle.std.proofs.Common.{◌≡◌, map, take}
use Rattle.vx_base.specs.ValueRows.{option_row}
use Rattle.vx_tree.specs.RowParts.{field_in}
use Rattle.vx_canonical.proofs.canonical_nested.fields_at.Given as goal

abbrev pub invariant-loop-value : goal.invariant-loop-value
invariant-loop-value l = map option_row l.rows.items ≡ map (field_in l.place) (map option_row (take l.value-index l.values))

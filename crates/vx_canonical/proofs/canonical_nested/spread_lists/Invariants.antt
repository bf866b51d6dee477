use Rattle.std.proofs.Common.{map}
use Rattle.vx_base.specs.ValueRows.{option_row}
use Rattle.vx_canonical.proofs.PlainParts.{AreSpreadTo}
use Rattle.vx_canonical.proofs.canonical_nested.spread_lists.Given as goal

abbrev pub invariant-loop-value : goal.invariant-loop-value
invariant-loop-value l = AreSpreadTo (map option_row l.values) l.value-index (map option_row l.rows.items) l.places.items l.sizes.items

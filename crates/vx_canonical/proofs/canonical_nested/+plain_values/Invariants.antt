use Rattle.std.proofs.Common.{◌≡◌, ◌+◌, ◌*◌, map, take, drop}
use Rattle.vx_base.specs.Codes.{kind_depth, kinds_depth}
use Rattle.vx_base.specs.DTypes.{dtype_meaning, field_kinds, kinds_of}
use Rattle.vx_base.specs.ValueRows.{option_row}
use Rattle.vx_canonical.specs.PlainValues.{ArePlainFields}
use Rattle.vx_tree.specs.CanonicalFaults.{fields_fault}
use Rattle.vx_canonical.proofs.canonical_nested.+plain_values.Given as goal

abbrev pub decreases-plain_values : goal.decreases-plain_values
decreases-plain_values l = 4 * kind_depth (dtype_meaning l.dtype.now)

abbrev pub decreases-plain_lists : goal.decreases-plain_lists
decreases-plain_lists l = 4 * kind_depth (dtype_meaning l.items.now) + 1

abbrev pub decreases-plain_fixed_lists : goal.decreases-plain_fixed_lists
decreases-plain_fixed_lists l = 4 * kind_depth (dtype_meaning l.items.now) + 2

abbrev pub decreases-fixed_lists_by_item : goal.decreases-fixed_lists_by_item
decreases-fixed_lists_by_item l = 4 * kind_depth (dtype_meaning l.items.now) + 1

abbrev pub decreases-plain_records : goal.decreases-plain_records
decreases-plain_records l = 4 * kinds_depth (field_kinds l.fields.now) + 2

abbrev pub decreases-plain_fields : goal.decreases-plain_fields
decreases-plain_fields l = 4 * kinds_depth (kinds_of l.dtypes.now) + 1

abbrev pub invariant-plain_fields-loop-place : goal.invariant-plain_fields-loop-place
invariant-plain_fields-loop-place l =
    ArePlainFields 0 (take l.place l.dtypes) (map option_row l.values) l.columns.items
    × (fields_fault (kinds_of (drop l.place l.dtypes)) l.place (map option_row l.values) ≡ fields_fault (kinds_of l.dtypes) 0 (map option_row l.values))

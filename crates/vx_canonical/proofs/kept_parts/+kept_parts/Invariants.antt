use Rattle.std.proofs.Common.{◌≡◌, ◌+◌, ◌*◌, map, take, drop}
use Rattle.vx_base.specs.Codes.{kind_depth, kinds_depth}
use Rattle.vx_base.specs.DTypes.{dtype_meaning, field_kinds, kinds_of}
use Rattle.vx_base.specs.ValueRows.{option_row}
use Rattle.vx_canonical.specs.Canonical.{AreKeptFields}
use Rattle.vx_tree.specs.CanonicalFaults.{kept_fields_fault}
use Rattle.vx_canonical.proofs.kept_parts.+kept_parts.Given as goal

abbrev pub decreases-kept_parts : goal.decreases-kept_parts
decreases-kept_parts l = 4 * kind_depth (dtype_meaning l.dtype.now)

abbrev pub decreases-kept_by_fixed_lists : goal.decreases-kept_by_fixed_lists
decreases-kept_by_fixed_lists l = 4 * kind_depth (dtype_meaning l.items.now) + 1

abbrev pub decreases-kept_by_records : goal.decreases-kept_by_records
decreases-kept_by_records l = 4 * kinds_depth (field_kinds l.fields.now) + 2

abbrev pub decreases-kept_by_fields : goal.decreases-kept_by_fields
decreases-kept_by_fields l = 4 * kinds_depth (kinds_of l.dtypes.now) + 1

abbrev pub invariant-kept_by_fields-loop-place : goal.invariant-kept_by_fields-loop-place
invariant-kept_by_fields-loop-place l =
    AreKeptFields 0 (take l.place l.dtypes) (map option_row l.values) l.columns.items
    × (kept_fields_fault (kinds_of (drop l.place l.dtypes)) l.place (map option_row l.values) ≡ kept_fields_fault (kinds_of l.dtypes) 0 (map option_row l.values))

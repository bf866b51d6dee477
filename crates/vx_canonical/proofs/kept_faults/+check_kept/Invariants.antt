use Rattle.std.proofs.Common.{◌≡◌, ◌+◌, ◌*◌, map, drop}
use Rattle.vx_base.specs.Codes.{kind_depth, kinds_depth}
use Rattle.vx_base.specs.DTypes.{dtype_meaning, field_kinds, kinds_of}
use Rattle.vx_base.specs.ValueRows.{option_row}
use Rattle.vx_tree.specs.CanonicalFaults.{kept_fields_fault}
use Rattle.vx_canonical.proofs.kept_faults.+check_kept.Given as goal

abbrev pub decreases-check_kept : goal.decreases-check_kept
decreases-check_kept l = 4 * kind_depth (dtype_meaning l.dtype.now)

abbrev pub decreases-check_lists : goal.decreases-check_lists
decreases-check_lists l = 4 * kind_depth (dtype_meaning l.items.now) + 1

abbrev pub decreases-check_fixed_lists : goal.decreases-check_fixed_lists
decreases-check_fixed_lists l = 4 * kind_depth (dtype_meaning l.items.now) + 1

abbrev pub decreases-check_records : goal.decreases-check_records
decreases-check_records l = 4 * kinds_depth (field_kinds l.fields.now) + 2

abbrev pub decreases-check_fields : goal.decreases-check_fields
decreases-check_fields l = 4 * kinds_depth (kinds_of l.dtypes.now) + 1

abbrev pub invariant-check_fields-loop-place : goal.invariant-check_fields-loop-place
invariant-check_fields-loop-place l =
    kept_fields_fault (kinds_of (drop l.place l.dtypes)) l.place (map option_row l.values) ≡ kept_fields_fault (kinds_of l.dtypes) 0 (map option_row l.values)

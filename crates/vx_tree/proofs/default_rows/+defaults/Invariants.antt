use Rattle.std.proofs.Common.{◌+◌, ◌*◌, take}
use Rattle.vx_base.specs.Codes.{kind_depth, kinds_depth}
use Rattle.vx_base.specs.DTypes.{dtype_meaning, field_kinds, kinds_of}
use Rattle.vx_tree.specs.DefaultRows.{AreDefaultColumns}
use Rattle.vx_tree.proofs.default_rows.+defaults.Given as goal

abbrev pub decreases-defaults_of : goal.decreases-defaults_of
decreases-defaults_of l = 4 * kind_depth (dtype_meaning l.dtype.now)

abbrev pub decreases-default_lists : goal.decreases-default_lists
decreases-default_lists l = 4 * kind_depth (dtype_meaning l.items.now) + 1

abbrev pub decreases-default_records : goal.decreases-default_records
decreases-default_records l = 4 * kinds_depth (field_kinds l.fields.now) + 2

abbrev pub decreases-default_columns : goal.decreases-default_columns
decreases-default_columns l = 4 * kinds_depth (kinds_of l.dtypes.now) + 1

abbrev pub invariant-default_columns-loop-dtype : goal.invariant-default_columns-loop-dtype
invariant-default_columns-loop-dtype l = AreDefaultColumns (take l.dtype-index l.dtypes) l.fn.len l.columns.items

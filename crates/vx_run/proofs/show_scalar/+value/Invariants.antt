use Rattle.std.proofs.Common.{◌+◌, ◌*◌}
use Rattle.vx_base.specs.Codes.{kind_depth, kinds_depth}
use Rattle.vx_base.specs.DTypes.{dtype_meaning, field_kinds}
use Rattle.vx_run.proofs.show_scalar.+value.Given as goal

abbrev pub decreases-show_value : goal.decreases-show_value
decreases-show_value l = 2 * kind_depth (dtype_meaning l.dtype.now)

abbrev pub decreases-show_items : goal.decreases-show_items
decreases-show_items l = 2 * kind_depth (dtype_meaning l.dtype.now) + 1

abbrev pub decreases-show_fields : goal.decreases-show_fields
decreases-show_fields l = 2 * kinds_depth (field_kinds l.fields.now) + 1

use Rattle.std.proofs.Common.{◌≡◌, ◌+◌, ◌*◌, take}
use Rattle.std.specs.List.{AllZip}
use Rattle.vx_base.specs.Codes.{kind_depth, kinds_depth}
use Rattle.vx_base.specs.Defaults.{default_row}
use Rattle.vx_base.specs.Kinds.{Fits}
use Rattle.vx_base.specs.DTypes.{dtype_meaning, kinds_of}
use Rattle.vx_base.specs.ValueRows.{row_under}
use Rattle.vx_base.proofs.default_value.+default.Given as goal

abbrev pub decreases-default_of : goal.decreases-default_of
decreases-default_of l = 2 * kind_depth (dtype_meaning l.dtype.now)

abbrev pub decreases-defaults_of : goal.decreases-defaults_of
decreases-defaults_of l = 2 * kinds_depth (kinds_of l.dtypes.now) + 1

abbrev pub invariant-defaults_of-loop-dtype : goal.invariant-defaults_of-loop-dtype
invariant-defaults_of-loop-dtype l =
    AllZip (λ d v. Fits (dtype_meaning d) (default_row (dtype_meaning d)) → row_under (dtype_meaning d) v ≡ default_row (dtype_meaning d)) (take l.dtype-index l.dtypes) l.values.items

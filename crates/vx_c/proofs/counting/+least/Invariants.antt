use Rattle.std.proofs.Common.{◌≡◌, ◌+◌, ◌*◌, drop}
use Rattle.vx_base.specs.Codes.{kind_depth, kinds_depth}
use Rattle.vx_base.specs.DTypes.{dtype_meaning, kinds_of}
use Rattle.vx_c.specs.Unflagged.{least_counts}
use Rattle.vx_c.proofs.counting.+least.Given as goal

abbrev pub decreases-left_by_kind : goal.decreases-left_by_kind
decreases-left_by_kind l = 2 * kind_depth (dtype_meaning l.dtype.now)

abbrev pub decreases-left_by_kinds : goal.decreases-left_by_kinds
decreases-left_by_kinds l = 2 * kinds_depth (kinds_of l.dtypes.now) + 1

abbrev pub invariant-left_by_kinds-loop-dtype : goal.invariant-left_by_kinds-loop-dtype
invariant-left_by_kinds-loop-dtype l =
    least_counts (kinds_of (drop l.dtype-index l.dtypes)) + l.nodes ≡ least_counts (kinds_of l.dtypes) + l.left

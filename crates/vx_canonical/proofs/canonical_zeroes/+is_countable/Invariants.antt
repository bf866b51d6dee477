use Rattle.std.proofs.Common.{◌≡◌, ◌+◌, ◌*◌, drop}
use Rattle.vx_base.specs.Codes.{kind_depth, kinds_depth}
use Rattle.vx_base.specs.DTypes.{dtype_meaning, kinds_of}
use Rattle.vx_tree.specs.CanonicalFaults.{fields_overflow}
use Rattle.vx_canonical.proofs.canonical_zeroes.+is_countable.Given as goal

abbrev pub decreases-is_countable : goal.decreases-is_countable
decreases-is_countable l = 2 * kind_depth (dtype_meaning l.dtype.now)

abbrev pub decreases-are_countable : goal.decreases-are_countable
decreases-are_countable l = 2 * kinds_depth (kinds_of l.dtypes.now) + 1

abbrev pub invariant-are_countable-loop-dtype : goal.invariant-are_countable-loop-dtype
invariant-are_countable-loop-dtype l = fields_overflow (kinds_of (drop l.dtype-index l.dtypes)) l.fn.len ≡ fields_overflow (kinds_of l.dtypes) l.fn.len

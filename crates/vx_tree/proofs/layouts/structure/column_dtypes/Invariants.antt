use Rattle.std.proofs.Common.{◌≡◌, map, take}
use Rattle.vx_base.specs.DTypes.{dtype_meaning}
use Rattle.vx_tree.specs.Meaning.{kind_of}
use Rattle.vx_tree.proofs.layouts.structure.column_dtypes.Given as goal

abbrev pub invariant-loop-column : goal.invariant-loop-column
invariant-loop-column l = map dtype_meaning l.dtypes.items ≡ map kind_of (take l.column-index l.columns)

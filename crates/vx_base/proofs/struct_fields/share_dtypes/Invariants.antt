use Rattle.std.proofs.Common.{◌≡◌, ◌++◌, map, take}
use Rattle.vx_base.specs.DTypes.{dtype_meaning}
use Rattle.vx_base.proofs.struct_fields.share_dtypes.Given as goal

abbrev pub invariant-loop-dtype : goal.invariant-loop-dtype
invariant-loop-dtype l = map dtype_meaning l.out.items ≡ map dtype_meaning l.initial.out.items ++ map dtype_meaning (take l.dtype-index l.dtypes)

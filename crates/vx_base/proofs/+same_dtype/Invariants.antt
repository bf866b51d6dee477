use Rattle.std.proofs.Common.{◌≡◌, ◌+◌, ◌*◌, drop}
use Rattle.vx_base.specs.SameKind.{kinds_eq}
use Rattle.vx_base.specs.Codes.{kind_depth, kinds_depth}
use Rattle.vx_base.specs.DTypes.{dtype_meaning, field_kinds, kinds_of}
use Rattle.vx_base.proofs.+same_dtype.Given as goal

abbrev pub invariant-dtypes::same_dtypes-loop-i : goal.invariant-dtypes::same_dtypes-loop-i
invariant-dtypes::same_dtypes-loop-i l = kinds_eq (kinds_of (drop l.i l.dtypes)) (kinds_of (drop l.i l.others)) ≡ kinds_eq (kinds_of l.dtypes) (kinds_of l.others)

abbrev pub decreases-dtypes::DType::same : goal.decreases-dtypes::DType::same
decreases-dtypes::DType::same l = 3 * kind_depth (dtype_meaning l.self.now)

abbrev pub decreases-dtypes::same_dtypes : goal.decreases-dtypes::same_dtypes
decreases-dtypes::same_dtypes l = 3 * kinds_depth (kinds_of l.dtypes.now) + 1

abbrev pub decreases-struct_fields::StructFields::same : goal.decreases-struct_fields::StructFields::same
decreases-struct_fields::StructFields::same l = 3 * kinds_depth (field_kinds l.self.now) + 2

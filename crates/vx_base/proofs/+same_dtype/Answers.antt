use Rattle.std.proofs.Common.{◌∙◌, sym}
use Rattle.vx_base.proofs.StructKinds.{same_structs, same_nullability, kinds_eq-lengths}
use Rattle.vx_base.proofs.+same_dtype.Goals as goal

pub dtypes::DType::same-returns-then-eq-4 : goal.dtypes::DType::same-returns-then-eq-4
dtypes::DType::same-returns-then-eq-4 t c =
    same_structs c.args.self.now c.args.other.now c.in-Struct.fields c.in-Struct-other.other_fields c.in-Struct.own c.in-Struct-other.nullability
    c.same-then-eq-4.result c.in-Struct.is c.in-Struct-other.is
    (same_nullability c.in-Struct.own c.in-Struct-other.nullability (sym c.eq-in-Struct-other.ensures ∙ c.if-eq-4.true))
    c.same-then-eq-4.ensures

pub dtypes::same_dtypes-returns-then-dtypes-others :
    goal.dtypes::same_dtypes-returns-then-dtypes-others
dtypes::same_dtypes-returns-then-dtypes-others t c = kinds_eq-lengths c.args.dtypes.now c.args.others.now c.if-dtypes-others.true

use Rattle.vx_base.proofs.StructKinds.{same_struct_kind}
use Rattle.vx_base.proofs.dtypes.DType.try_clone.Goals as goal

pub returns-in_ok-try_clone-in-Struct : goal.returns-in_ok-try_clone-in-Struct
returns-in_ok-try_clone-in-Struct c =
    same_struct_kind c.args.self.now c.in-Struct.fields c.in_ok-try_clone-in-Struct.field-0 c.in-Struct.nullability c.in-Struct.is
    c.in_ok-try_clone-in-Struct.ensures.names c.in_ok-try_clone-in-Struct.ensures.kinds

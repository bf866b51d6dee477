use Rattle.vx_base.proofs.StructKinds.{struct_kind}
use Rattle.vx_base.proofs.dtypes.DType.as_struct_fields.Goals as goal

pub returns : goal.returns
returns c = struct_kind c.args.self.now c.in-Struct.fields c.in-Struct.field-1 c.in-Struct.is

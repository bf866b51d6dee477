use Rattle.vx_base.specs.DTypes.{dtype_meaning-Struct}
use Rattle.vx_base.proofs.dtypes.DType.new_struct.Goals as goal

pub returns : goal.returns
returns c = dtype_meaning-Struct c.args.fields c.args.nullability

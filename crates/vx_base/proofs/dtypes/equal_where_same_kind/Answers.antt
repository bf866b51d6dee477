use Rattle.vx_base.specs.SameKind.{kind_eq-Decides}
use Rattle.vx_base.proofs.dtypes.equal_where_same_kind.Goals as goal

pub returns : goal.returns
returns c = kind_eq-Decides

use Rattle.std.proofs.Common.{refl}
use Rattle.vx_base.proofs.Positions.{unsigned-numbers}
use Rattle.vx_base.specs.declared.ptypes.PType.TheVariants.{U32}
use Rattle.vx_timed.proofs.operations.numbers.read.Goals as goal

pub read_counts-requires : goal.read_counts-requires
read_counts-requires c = unsigned-numbers U32 _ refl

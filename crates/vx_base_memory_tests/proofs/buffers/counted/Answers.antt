use Rattle.std.proofs.Common.{refl}
use Rattle.vx_base.proofs.Positions.{unsigned-numbers}
use Rattle.vx_base.specs.declared.ptypes.PType.TheVariants.{U8}
use Rattle.vx_base_memory_tests.proofs.buffers.counted.Goals as goal

pub read_counts-requires : goal.read_counts-requires
read_counts-requires c = unsigned-numbers U8 _ refl

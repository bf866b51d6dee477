use Rattle.std.proofs.Common.{refl}
use Rattle.vx_base.proofs.Positions.{unsigned-numbers}
use Rattle.vx_base.specs.declared.ptypes.PType.TheVariants.{U16}
use Rattle.vx_base_tests.proofs.base.positions_from_numbers.Goals as goal

pub read_counts-requires : goal.read_counts-requires
read_counts-requires g c = unsigned-numbers U16 _ refl

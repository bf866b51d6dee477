use Rattle.std.proofs.Common.{refl}
use Rattle.vx_base.specs.Integers.{numbers}
use Rattle.vx_test_help.proofs.samples.records.Goals as goal

pub numbers-requires : goal.numbers-requires
unfolding numbers
numbers-requires c = (tt, refl)

use Rattle.std.proofs.Common.{refl}
use Rattle.vx_base.specs.Integers.{numbers}
use Rattle.vx_tree_tests.proofs.tree.constant_taken_by_plain_indices.Goals as goal

pub numbers-requires : goal.numbers-requires
unfolding numbers
numbers-requires g c = (tt, refl)

use Rattle.std.proofs.Common.{refl}
use Rattle.vx_base.specs.Integers.{numbers}
use Rattle.vx_tree_tests.proofs.tree.null_indices.indices_that_are_all_null.Goals as goal

pub numbers-requires : goal.numbers-requires
unfolding numbers
numbers-requires g c = (tt, refl)

use Rattle.std.proofs.Common.{refl}
use Rattle.vx_base.specs.Integers.{numbers}
use Rattle.vx_tree_tests.proofs.tree.numbers_taken_from_no_rows.Goals as goal

pub numbers-requires : goal.numbers-requires
unfolding numbers
numbers-requires g c = (tt, refl)

pub numbers-requires-2 : goal.numbers-requires-2
unfolding numbers
numbers-requires-2 g c = (tt, refl)

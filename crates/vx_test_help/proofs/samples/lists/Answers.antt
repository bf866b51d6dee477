use Rattle.std.proofs.Common.{refl}
use Rattle.vx_base.specs.Integers.{numbers}
use Rattle.vx_tree.proofs.Worked.{overlapping_formed}
use Rattle.vx_test_help.proofs.samples.lists.Goals as goal

pub numbers-requires : goal.numbers-requires
unfolding numbers
numbers-requires c = (tt, refl)

pub numbers-requires-2 : goal.numbers-requires-2
unfolding numbers
numbers-requires-2 c = (tt, refl)

pub numbers-requires-3 : goal.numbers-requires-3
unfolding numbers
numbers-requires-3 c = (tt, refl)

pub from_parts-requires : goal.from_parts-requires
from_parts-requires c = (tt, rw (c.in_ok-elements.ensures, c.in_ok-offsets.ensures, c.in_ok-sizes.ensures) overlapping_formed)

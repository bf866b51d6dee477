use Rattle.std.proofs.Common.{ap, refl, ◌∙◌}
use Rattle.vx_base.specs.Integers.{numbers}
use Rattle.vx_tree.specs.Meaning.{tree_len}
use Rattle.vx_test_help.proofs.samples.pairs.Goals as goal

pub numbers-requires : goal.numbers-requires
unfolding numbers
numbers-requires c = (tt, refl)

pub from_parts-requires : goal.from_parts-requires
unfolding numbers
from_parts-requires c = (tt, ap tree_len c.in_ok-elements.ensures)

use Rattle.std.proofs.Common.{ap, ◌∙◌}
use Rattle.vx_base.specs.Integers.{numbers}
use Rattle.vx_tree.specs.Meaning.{tree_len}
use Rattle.vx_canonical_tests.proofs.nested.layouts.pairs_by_codes.Goals as goal

pub from_parts-requires : goal.from_parts-requires
unfolding numbers
from_parts-requires c = (tt, c.in_ok-elements.ensures ∙ ap tree_len c.in_ok-codes.ensures)

use Rattle.std.proofs.Common.{ap, sym, refl, ◌∙◌}
use Rattle.vx_base.specs.Integers.{numbers}
use Rattle.vx_tree.specs.Meaning.{tree_len}
use Rattle.vx_tree_tests.proofs.tree.fixed_size_lists.no_elements.Goals as goal

pub numbers-requires : goal.numbers-requires
unfolding numbers
numbers-requires c = (tt, refl)

pub fixed_size_list-requires : goal.fixed_size_list-requires
unfolding numbers
fixed_size_list-requires c = (tt, ap tree_len c.in_ok-elements.ensures ∙ sym c.requires)

use Rattle.std.proofs.Common.{refl}
use Rattle.vx_base.specs.Integers.{numbers}
use Rattle.vx_tree_tests.proofs.tree.records.records_of_huge_lists_taken_from_no_rows.Goals as goal

pub numbers-requires : goal.numbers-requires
unfolding numbers
numbers-requires g c = (tt, refl)

use Rattle.std.proofs.Common.{ap, refl}
use Rattle.vx_base.specs.Integers.{numbers}
use Rattle.vx_tree.specs.Meaning.{tree_len, kind_of}
use Rattle.vx_tree_tests.proofs.tree.null_indices.null_first.Goals as goal

pub numbers-requires : goal.numbers-requires
unfolding numbers
numbers-requires c =
    let e = c.in_ok-bools.ensures in
    (record { len = ap tree_len e; kind = ap kind_of e }, refl)

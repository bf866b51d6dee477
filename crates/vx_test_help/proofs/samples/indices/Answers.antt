use Rattle.std.proofs.Common.{ap, refl}
use Rattle.vx_base.specs.Integers.{numbers}
use Rattle.vx_tree.specs.Meaning.{tree_len, kind_of}
use Rattle.vx_test_help.proofs.samples.indices.Goals as goal

pub numbers-requires : goal.numbers-requires
unfolding numbers
numbers-requires c =
    let e = c.in_ok-bools.ensures in
    (record { len = ap tree_len e; kind = ap kind_of e }, refl)

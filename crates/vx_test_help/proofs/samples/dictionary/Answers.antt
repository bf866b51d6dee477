use Rattle.std.proofs.Common.{ap, refl}
use Rattle.vx_base.specs.Integers.{numbers}
use Rattle.vx_tree.specs.Meaning.{tree_len, kind_of}
use Rattle.vx_tree.proofs.Worked.{are_codes}
use Rattle.vx_test_help.proofs.samples.dictionary.Goals as goal

pub numbers-requires : goal.numbers-requires
unfolding numbers
numbers-requires c =
    let e = c.in_ok-bools.ensures in
    (record { len = ap tree_len e; kind = ap kind_of e }, refl)

pub numbers-requires-2 : goal.numbers-requires-2
unfolding numbers
numbers-requires-2 c =
    let e = c.in_ok-bools-2.ensures in
    (record { len = ap tree_len e; kind = ap kind_of e }, refl)

pub dictionary-requires : goal.dictionary-requires
unfolding numbers
dictionary-requires c =
    rw (c.in_ok-codes.ensures, c.in_ok-values.ensures, c.in_ok-bools.ensures, c.in_ok-bools-2.ensures) (record { codes = refl; within = λ i h. are_codes i; referenced = λ h. absurd (cc) })

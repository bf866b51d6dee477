use Rattle.std.proofs.Common.{refl}
use Rattle.vx_base.specs.Integers.{numbers}
use Rattle.vx_pack_tests.proofs.layouts.many.four_or_five.Goals as goal

pub numbers-requires : goal.numbers-requires
unfolding numbers
numbers-requires c = (tt, refl)

pub dictionary-requires : goal.dictionary-requires
unfolding numbers
dictionary-requires c =
    rw (c.in_ok-codes.ensures, c.in_ok-values.ensures) (record { codes = refl; within = λ i h. c.requires; referenced = λ h. absurd (cc) })

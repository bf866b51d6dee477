use Rattle.std.proofs.Common.{◌-◌, ◌*◌, eqb}
use Rattle.std.specs.Int.{bit_at}
use Rattle.vx_base.specs.Bits.{Written}
use Rattle.vx_base.proofs.bit_words.put_each.Given as goal

abbrev pub invariant-loop-j : goal.invariant-loop-j
invariant-loop-j l = Written l.initial.out l.out (8 * l.fn.first) (8 * l.j) (λ k. eqb (bit_at l.word (k - 8 * l.fn.first)) 1)

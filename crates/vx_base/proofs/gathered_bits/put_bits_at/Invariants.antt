use Rattle.std.proofs.Common.{ℕ, ◌≡◌, ◌<◌, ◌*◌, get_or}
use Rattle.vx_base.specs.Bits.{bit_of, bool_at}
use Rattle.vx_base.proofs.gathered_bits.put_bits_at.Given as goal

abbrev pub invariant-loop-j : goal.invariant-loop-j
invariant-loop-j g l = (k : ℕ) → k < 8 * l.j → bit_of l.out k ≡ bool_at l.bits.bits (get_or (g.P.Places.positions l.places) k 0)

abbrev pub invariant-loop-i : goal.invariant-loop-i
invariant-loop-i g l = (k : ℕ) → k < l.i → bit_of l.out k ≡ bool_at l.bits.bits (get_or (g.P.Places.positions l.places) k 0)

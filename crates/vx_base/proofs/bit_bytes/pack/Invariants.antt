use Rattle.std.proofs.Common.{ℕ, ◌≡◌, ◌<◌, ◌*◌}
use Rattle.vx_base.specs.Bits.{bit_of, bool_at}
use Rattle.vx_base.proofs.bit_bytes.pack.Given as goal

abbrev pub invariant-loop-j : goal.invariant-loop-j
invariant-loop-j l = (k : ℕ) → k < 8 * l.j → bit_of l.out k ≡ bool_at l.bools k

abbrev pub invariant-loop-i : goal.invariant-loop-i
invariant-loop-i l = (k : ℕ) → k < l.i → bit_of l.out k ≡ bool_at l.bools k

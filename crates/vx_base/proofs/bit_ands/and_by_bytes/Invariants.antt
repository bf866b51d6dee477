use Rattle.std.proofs.Common.{ℕ, ◌≡◌, ◌<◌, ◌+◌, ◌*◌}
use Rattle.std.specs.Prelude.{◌&&◌}
use Rattle.vx_base.specs.Bits.{bit_of}
use Rattle.vx_base.proofs.bit_ands.and_by_bytes.Given as goal

abbrev pub invariant-loop-j : goal.invariant-loop-j
invariant-loop-j l = (k : ℕ) → k < 8 * l.j → bit_of l.out k ≡ (bit_of l.left (l.from + k) && bit_of l.right (l.at + k))

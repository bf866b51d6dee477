use Rattle.std.proofs.Common.{ℕ, ◌≡◌, ◌<◌, ◌+◌, ◌*◌, length}
use Rattle.std.specs.Prelude.{◌&&◌}
use Rattle.vx_base.specs.Bits.{bit_of}
use Rattle.vx_base.proofs.bit_ands.and_by_words.Given as goal

abbrev pub invariant-loop-j : goal.invariant-loop-j
invariant-loop-j l = (k : ℕ) → k < 56 * l.j → k < 8 * length l.out → bit_of l.out k ≡ (bit_of l.left (l.from + k) && bit_of l.right (l.at + k))

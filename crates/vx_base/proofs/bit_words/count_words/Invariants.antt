use Rattle.std.proofs.Common.{◌≡◌, ◌≤◌, ◌*◌, take, count_by}
use Rattle.vx_base.specs.Bits.{unpacked}
use Rattle.vx_base.proofs.bit_words.count_words.Given as goal

abbrev pub invariant-loop-j : goal.invariant-loop-j
invariant-loop-j l = (l.count ≤ 64 * l.j) × (l.count ≡ count_by (λ b. b) (take (64 * l.j) (unpacked l.bytes 0 (64 * l.words))))

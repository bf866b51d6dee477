use Rattle.std.proofs.Common.{◌≡◌, ◌*◌, take}
use Rattle.vx_base.proofs.bit_buffer.BitBuffer.same_bytes.Given as goal

abbrev pub invariant-loop-j : goal.invariant-loop-j
invariant-loop-j l = take (8 * l.j) l.self.bits ≡ take (8 * l.j) l.other.bits

use Rattle.std.proofs.Common.{◌≡◌, length, sym, ap, ◌∙◌, arith}
use Rattle.vx_base.specs.Bits.{bits_of}
use Rattle.vx_base.proofs.PackedBits.{length_unpacked}
use Rattle.vx_base.proofs.PackedBytes.{and_all}
use Rattle.vx_base.proofs.Refused.{Gives-weaker}
use Rattle.vx_base.proofs.bit_buffer.BitBuffer.bytes_of_both.Goals as goal

pub returns-clause-bits : goal.returns-clause-bits
returns-clause-bits c =
    let s = c.self.inside in
    let o = c.other.inside in
    let long : length c.args.self.now.bits ≡ s.len = sym (ap length (ap bits_of c.self.view_is)) ∙ length_unpacked s.bytes s.offset s.len in
    let same : s.len ≡ o.len = omega (arith, long, ap length (ap bits_of c.other.view_is), length_unpacked o.bytes o.offset o.len) in
    Gives-weaker c.and_bytes.result _ _
    (λ v each.
    let all = and_all c.as_slice-mine.result.now c.as_slice-theirs.result.now v.items s.offset o.offset s.len (λ k h. each k (omega arith)) in
    rw (long, ← (ap bits_of c.self.view_is), ← (ap bits_of c.other.view_is), ← c.as_slice-mine.ensures.value, ← c.as_slice-theirs.ensures.value, ← same) all)
    c.and_bytes.ensures.bits

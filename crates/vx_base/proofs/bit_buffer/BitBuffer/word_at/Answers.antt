use Rattle.std.proofs.Common.{ℕ, List, Bool, false, ◌+◌, ◌<◌, ◌≡◌, ◌∙◌, length, sym, ap, arith}
use Rattle.vx_base.specs.Bits.{bit_of, bool_at, bits_of, PackedBits}
use Rattle.vx_base.proofs.PackedBits.{get_unpacked, length_unpacked}
use Rattle.vx_base.proofs.bit_buffer.BitBuffer.word_at.Goals as goal

pub returns : goal.returns
returns c =
    let s = c.self.inside in
    let start = c.args.start in
    let all : length c.args.self.now.bits ≡ s.len = sym (ap length (ap bits_of c.self.view_is)) ∙ length_unpacked s.bytes s.offset s.len in
    let first : s.offset ≡ c.args.self.now.offset = ap (λ (p : PackedBits). p.offset) c.self.view_is in
    λ i h l.
    let within : start + i < s.len = omega (arith, all) in
    let place : s.offset + start + i ≡ s.offset + (start + i) = omega arith in
    c.bits_from.ensures i (omega arith) ∙ ap (λ (bs : List ℕ). bit_of bs (s.offset + start + i)) c.as_slice.ensures.value ∙ ap (bit_of s.bytes) place
    ∙ sym (get_unpacked s.bytes s.offset s.len (start + i) false within) ∙ ap (λ (bs : List Bool). bool_at bs (start + i)) (ap bits_of c.self.view_is)

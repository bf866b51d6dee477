use Rattle.std.proofs.Common.{ℕ, List, Bool, false, ◌+◌, ◌-◌, ◌<◌, ◌≡◌, ◌∙◌, length, sym, ap, arith}
use Rattle.vx_base.specs.Bits.{bit_of, bool_at, bits_of}
use Rattle.vx_base.proofs.PackedBits.{get_unpacked, length_unpacked}
use Rattle.vx_base.proofs.bit_buffer.BitBuffer.copy_to.Goals as goal

pub returns-clause-written : goal.returns-clause-written
returns-clause-written c =
    let s = c.self.inside in
    let all : length c.args.self.now.bits ≡ s.len = sym (ap length (ap bits_of c.self.view_is)) ∙ length_unpacked s.bytes s.offset s.len in
    let w = c.copy_bits.ensures.written in (
      λ k h l.
          let within : c.args.start + (k - c.args.at) < s.len = omega arith in
          let place : s.offset + c.args.start + (k - c.args.at) ≡ s.offset + (c.args.start + (k - c.args.at)) = omega arith in
          w.0 k h l ∙ ap (λ (bs : List ℕ). bit_of bs (s.offset + c.args.start + (k - c.args.at))) c.as_slice.ensures.value ∙ ap (bit_of s.bytes) place
          ∙ sym (get_unpacked s.bytes s.offset s.len (c.args.start + (k - c.args.at)) false within) ∙ ap (λ (bs : List Bool). bool_at bs (c.args.start + (k - c.args.at))) (ap bits_of c.self.view_is),
      w.1,
      w.2,
    )

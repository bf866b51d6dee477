use Rattle.std.proofs.Common.{◌⊎◌, inl, inr, ℕ, List, ◌≡◌, ◌≤◌, ◌+◌, ◌*◌, length, count_by, sym, ap, ◌∙◌, arith}
use Rattle.std.specs.Prelude.{count_ones}
use Rattle.std.proofs.lemmas.List.{take_all}
use Rattle.std.proofs.lemmas.Nat.{ones-le}
use Rattle.vx_base.specs.Bits.{byte_from, bits_of}
use Rattle.vx_base.proofs.PackedBits.{length_unpacked}
use Rattle.vx_base.proofs.PackedBytes.{count_more}
use Rattle.vx_base.proofs.Packing.{words_front}
use Rattle.vx_base.proofs.bit_buffer.BitBuffer.true_count.Goals as goal
use Rattle.vx_base.proofs.bit_buffer.BitBuffer.true_count.Goals.{then-self-eq0, else-self-eq0}

pub loop-j-init : goal.loop-j-init
loop-j-init c =
    let s = c.self.inside in
    let few : ((s.offset ≡ 0) ⊎ (c.if-self-eq0.words ≡ 0)) × (64 * c.if-self-eq0.words ≤ s.len) = elim c.if-self-eq0.branch [
      | then-self-eq0 w ↦ (inl w.if-self-eq0.true, omega arith)
      | else-self-eq0 w ↦ (inr w.words-is, omega arith)
    ] in
    let front = words_front c.as_slice-source.result.now c.args.self.now.bits s.offset s.len c.if-self-eq0.words (rw c.as_slice-source.ensures.value (ap bits_of c.self.view_is)) few.0 few.1 in (
      omega arith,
      c.count_words-count.ensures.value ∙ ap (count_by (λ b. b)) front,
    )

pub loop-j-preserved : goal.loop-j-preserved
loop-j-preserved c =
    let s = c.self.inside in
    let room : 8 * c.loop-j.j + 8 ≤ s.len = omega arith in
    let next : 8 * (c.loop-j.j + 1) ≡ 8 * c.loop-j.j + 8 = omega arith in
    let byte = c.byte_from.ensures ∙ ap (λ (bytes : List ℕ). byte_from bytes (s.offset + 8 * c.loop-j.j)) c.as_slice-source.ensures.value in
    let more = rw ((ap bits_of c.self.view_is), ← byte) at (count_more s.bytes s.offset s.len (8 * c.loop-j.j) room) in (
      omega (arith, ones-le 8 c.byte_from.result c.byte_from.type_inv),
      ap (λ (n : ℕ). n + count_ones c.byte_from.result) c.loop-j.invariant.1 ∙ rw next (sym more),
    )

pub returns : goal.returns
returns c =
    let s = c.self.inside in
    let bits = c.args.self.now.bits in
    c.loop-i.invariant.1 ∙ ap (count_by (λ b. b)) (take_all c.loop-i.i bits (omega (arith, ap length (ap bits_of c.self.view_is), length_unpacked s.bytes s.offset s.len)))

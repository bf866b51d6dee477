use Rattle.vx_base.proofs.Packing.{bytes_front}
use Rattle.std.proofs.Common.{◌≡◌, ◌*◌, ◌/◌, length, sym, ap, ◌∙◌, arith}
use Rattle.vx_base.specs.Bits.{bits_of}
use Rattle.vx_base.proofs.PackedBits.{length_unpacked}
use Rattle.vx_base.proofs.SameBits.{byte_seen, same_more, same_byte}
use Rattle.vx_base.proofs.bit_buffer.BitBuffer.same_bytes.Goals as goal

pub returns-then-byte_from : goal.returns-then-byte_from
returns-then-byte_from c =
    let s = c.self.inside in
    let o = c.other.inside in
    let xs = c.args.self.now.bits in
    let ys = c.args.other.now.bits in
    let j = c.loop-j.j in
    let long : length xs ≡ s.len = rw (← (ap bits_of c.self.view_is)) (length_unpacked s.bytes s.offset s.len) in
    let wide : length ys ≡ o.len = rw (← (ap bits_of c.other.view_is)) (length_unpacked o.bytes o.offset o.len) in
    let left = byte_seen xs s.bytes c.as_slice-mine.result.now s.offset s.len (8 * j) c.byte_from.result (ap bits_of c.self.view_is) c.as_slice-mine.ensures.value (omega arith) c.byte_from.ensures in
    let right = byte_seen ys o.bytes c.as_slice-theirs.result.now o.offset o.len (8 * j) c.byte_from-in-loop-j.result (ap bits_of c.other.view_is) c.as_slice-theirs.ensures.value (omega arith) c.byte_from-in-loop-j.ensures in
    (λ h. absurd (cc), λ e. absurd (c.if-byte_from.true (left ∙ same_byte xs ys j (length xs / 8) (omega arith) e ∙ sym right)))

pub loop-j-preserved : goal.loop-j-preserved
loop-j-preserved c =
    let s = c.self.inside in
    let o = c.other.inside in
    let xs = c.args.self.now.bits in
    let ys = c.args.other.now.bits in
    let j = c.loop-j.j in
    let long : length xs ≡ s.len = rw (← (ap bits_of c.self.view_is)) (length_unpacked s.bytes s.offset s.len) in
    let wide : length ys ≡ o.len = rw (← (ap bits_of c.other.view_is)) (length_unpacked o.bytes o.offset o.len) in
    let left = byte_seen xs s.bytes c.as_slice-mine.result.now s.offset s.len (8 * j) c.byte_from.result (ap bits_of c.self.view_is) c.as_slice-mine.ensures.value (omega arith) c.byte_from.ensures in
    let right = byte_seen ys o.bytes c.as_slice-theirs.result.now o.offset o.len (8 * j) c.byte_from-in-loop-j.result (ap bits_of c.other.view_is) c.as_slice-theirs.ensures.value (omega arith) c.byte_from-in-loop-j.ensures in
    same_more xs ys j (omega arith) (omega arith) c.loop-j.invariant (sym left ∙ c.if-byte_from.false ∙ right)

pub returns-then-other-eq0 : goal.returns-then-other-eq0
returns-then-other-eq0 c =
    let s = c.self.inside in
    let o = c.other.inside in
    let xs = c.args.self.now.bits in
    let ys = c.args.other.now.bits in
    let long : length xs ≡ s.len = rw (← (ap bits_of c.self.view_is)) (length_unpacked s.bytes s.offset s.len) in
    let wide : length ys ≡ o.len = rw (← (ap bits_of c.other.view_is)) (length_unpacked o.bytes o.offset o.len) in
    let left = bytes_front c.as_slice-mine.result.now xs s.offset s.len (s.len / 8) (rw c.as_slice-mine.ensures.value (ap bits_of c.self.view_is)) c.if-self-eq0.true (omega arith) in
    let right = bytes_front c.as_slice-theirs.result.now ys o.offset o.len (s.len / 8) (rw c.as_slice-theirs.ensures.value (ap bits_of c.other.view_is)) c.if-other-eq0.true (omega arith) in
    rw long (rw (left, right) at c.same_whole.ensures)

use Rattle.std.proofs.Common.{ℕ, List, ◌≡◌, ◌∙◌, ap, arith}
use Rattle.std.specs.Vec.{with_items}
use Rattle.std.proofs.lemmas.List.{with_items_is}
use Rattle.vx_base.specs.Bits.{unpacked, bits_of}
use Rattle.vx_base.proofs.Filling.{filled_all}
use Rattle.vx_base.proofs.bit_buffer.BitBuffer.full.Goals as goal

pub returns-clause-bits : goal.returns-clause-bits
returns-clause-bits c =
    let bits = c.fill_bits.new.bytes in
    let items : (with_items c.in_ok-bytes.bytes bits).items ≡ bits = with_items_is c.in_ok-bytes.bytes bits (omega (arith, c.deref_mut.ensures.len, c.fill_bits.ensures.len)) in
    ap bits_of c.from_parts.ensures ∙ ap (λ (bs : List ℕ). unpacked bs 0 c.args.len) (c.in_ok-from_vec.ensures ∙ items) ∙ filled_all _ bits c.args.len c.args.value c.fill_bits.ensures.filled

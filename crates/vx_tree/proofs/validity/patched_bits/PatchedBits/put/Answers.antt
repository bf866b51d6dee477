use Rattle.std.proofs.Common.{ℕ, ◌<◌, ◌≡◌, List, length, ap, ◌∙◌, arith}
use Rattle.std.specs.Vec.{with_items}
use Rattle.std.proofs.lemmas.List.{with_items_is}
use Rattle.vx_base.specs.Bits.{bit_of}
use Rattle.vx_base.proofs.PackedBits.{length_unpacked}
use Rattle.vx_tree.proofs.PatchedBits.{unpacked_put}
use Rattle.vx_tree.proofs.validity.patched_bits.PatchedBits.put.Goals as goal

pub returns : goal.returns
returns c =
    let s = c.self.inside in
    let bits = c.put_bit.new.bytes in
    let within : c.args.i < s.len = omega (arith, ap length c.self.view_is, length_unpacked s.bytes.items s.start s.len) in
    let items : (with_items s.bytes bits).items ≡ bits = with_items_is s.bytes bits (omega arith) in
    rw (items, ← c.self.view_is) (unpacked_put s.bytes.items bits s.start s.len c.args.i c.args.value within c.put_bit.ensures.written
    (λ j ne. c.put_bit.ensures.others j ne ∙ ap (λ (xs : List ℕ). bit_of xs j) c.deref_mut.ensures.value))

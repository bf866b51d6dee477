use Rattle.std.proofs.Common.{◌≡◌, ◌≤◌, length, ap, arith}
use Rattle.std.specs.Vec.{with_items}
use Rattle.std.proofs.lemmas.List.{with_items_is}
use Rattle.vx_base.proofs.Filling.{filled_list}
use Rattle.vx_base.proofs.PackedBits.{length_unpacked}
use Rattle.vx_base.proofs.bit_buffer_mut.BitBufferMut.fill_range.Goals as goal

pub returns : goal.returns
returns c =
    let s = c.self.inside in
    let bits = c.fill_bits.new.bytes in
    let within : c.args.end ≤ s.len = omega (arith, ap length c.self.view_is, length_unpacked s.bytes.items 0 s.len) in
    let items : (with_items s.bytes bits).items ≡ bits = with_items_is s.bytes bits (omega arith) in
    let filled = rw c.deref_mut.ensures.value at c.fill_bits.ensures.filled in
    rw (items, ← c.self.view_is) (filled_list s.bytes.items bits c.args.start c.args.end s.len c.args.value c.requires.start_le_end within filled)

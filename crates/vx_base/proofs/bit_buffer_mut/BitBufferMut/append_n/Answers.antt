use Rattle.std.proofs.Common.{ℕ, ◌≡◌, ◌<◌, ◌/◌, ◌%◌, eqb, replicate, ap, arith}
use Rattle.std.specs.Int.{bit_at}
use Rattle.std.specs.Vec.{with_items}
use Rattle.std.proofs.lemmas.List.{with_items_is, length-replicate, get_or-replicate}
use Rattle.vx_base.specs.Bits.{bit_of}
use Rattle.vx_base.proofs.Filling.{written_end}
use Rattle.vx_base.proofs.bit_buffer_mut.BitBufferMut.append_n.Goals as goal

pub returns-clause-ok : goal.returns-clause-ok
returns-clause-ok c =
    let s = c.self.inside in
    let made = c.resize.new.self in
    let bits = c.fill_bits.new.bytes in
    let items : (with_items made bits).items ≡ bits = with_items_is made bits (omega arith) in
    let filled = rw c.deref_mut.ensures.value at c.fill_bits.ensures.filled in
    let kept : (k : ℕ) → k < s.len → bit_of made.items k ≡ bit_of s.bytes.items k =
    λ k h. ap (λ (n : ℕ). eqb (bit_at n (k % 8)) 1) (c.in_ok-resize.ensures.by_index.0 (k / 8) 0 (omega arith) (omega arith)) in
    rw (items, ← c.self.view_is) (written_end s.bytes.items made.items bits s.len c.args.count (λ k. c.args.value) (replicate c.args.count c.args.value) kept filled.1 filled.0 (length-replicate c.args.count c.args.value) (λ i d h. get_or-replicate c.args.count i c.args.value d h))

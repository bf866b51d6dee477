use Rattle.std.proofs.Common.{ℕ, ◌≡◌, ◌≢◌, List, ap, ◌∙◌, arith}
use Rattle.std.specs.Vec.{with_items}
use Rattle.std.proofs.lemmas.List.{with_items_is}
use Rattle.std.proofs.lemmas.Result.{err_from_is_err_and}
use Rattle.vx_base.specs.Bits.{bit_of}
use Rattle.vx_base.proofs.PackedBits.{unpacked_push, unpacked_kept}
use Rattle.vx_base.proofs.bit_buffer_mut.BitBufferMut.append.Goals as goal

pub returns-in_err-make_room-clause-err : goal.returns-in_err-make_room-clause-err
returns-in_err-make_room-clause-err c =
    let p = err_from_is_err_and c.from_residual.result c.from_residual.ensures.1 in
    rw (p.1, ← c.self.view_is) (unpacked_kept c.self.inside.bytes.items c.make_room.new.bytes.items c.self.inside.len c.make_room.ensures.same)

pub returns-clause-ok : goal.returns-clause-ok
returns-clause-ok c =
    let s = c.self.inside in
    let made = c.make_room.new.bytes in
    let bits = c.put_bit.new.bytes in
    let items : (with_items made bits).items ≡ bits = with_items_is made bits (omega arith) in
    rw (items, ← c.self.view_is) (unpacked_push s.bytes.items bits s.len c.args.value c.put_bit.ensures.written
    (λ j l. let apart : j ≢ s.len = omega arith in
    c.put_bit.ensures.others j apart ∙ ap (λ (xs : List ℕ). bit_of xs j) c.deref_mut.ensures.value ∙ c.make_room.ensures.same j l))

use Rattle.std.proofs.Common.{ℕ, Bool, false, ◌+◌, ◌-◌, ◌≡◌, ◌<◌, ◌∙◌, get_or, drop, ap, arith}
use Rattle.std.specs.Prelude.{slice_range}
use Rattle.std.specs.Vec.{with_items}
use Rattle.std.proofs.lemmas.List.{with_items_is, get_or-take, get_or-drop, get_or_default}
use Rattle.std.proofs.lemmas.Result.{err_from_is_err_and}
use Rattle.vx_base.specs.Bits.{bool_at}
use Rattle.vx_base.proofs.Filling.{written_end}
use Rattle.vx_base.proofs.ListParts.{length_part}
use Rattle.vx_base.proofs.PackedBits.{unpacked_kept}
use Rattle.vx_base.proofs.bit_buffer_mut.BitBufferMut.append_slice.Goals as goal

pub returns-in_err-grow-clause-err : goal.returns-in_err-grow-clause-err
returns-in_err-grow-clause-err c =
    let p = err_from_is_err_and c.from_residual.result c.from_residual.ensures.1 in
    rw (p.1, ← c.self.view_is) (unpacked_kept c.self.inside.bytes.items c.grow.new.bytes.items c.self.inside.len c.grow.ensures.same)

pub returns-clause-ok : goal.returns-clause-ok
returns-clause-ok c =
    let s = c.self.inside in
    let start = c.args.start in
    let count = c.args.end - start in
    let source = c.args.bits.now.bits in
    let made = c.grow.new.bytes in
    let bits = c.put_last.new.bytes in
    let items : (with_items made bits).items ≡ bits = with_items_is made bits (omega arith) in
    let before = rw c.deref_mut.ensures.value at c.put_last.ensures.before in
    let each : (i : ℕ) (d : Bool) → i < count → get_or (slice_range source start c.args.end) i d ≡ bool_at source (start + (s.len + i - s.len)) =
    λ i d h. let place : start + i ≡ start + (s.len + i - s.len) = omega arith in
    get_or-take count (drop start source) i d h ∙ get_or-drop start source i d ∙ get_or_default source (start + i) d false (omega arith) ∙ ap (bool_at source) place in
    rw (items, ← c.self.view_is) (written_end s.bytes.items made.items bits s.len count (λ k. bool_at source (start + (k - s.len))) (slice_range source start c.args.end) c.grow.ensures.same before c.put_last.ensures.written
    (length_part source start c.args.end c.requires.start_le_end c.requires.in_bounds) each)

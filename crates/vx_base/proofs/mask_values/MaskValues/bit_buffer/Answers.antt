use Rattle.std.proofs.Common.{ℕ, List, ◌≡◌, ◌∙◌, ap, replicate, arith}
use Rattle.std.specs.Prelude.{◌||◌}
use Rattle.std.specs.Vec.{with_items}
use Rattle.std.proofs.lemmas.List.{with_items_is}
use Rattle.vx_base.specs.Bits.{unpacked, bits_of, bit_of}
use Rattle.vx_base.specs.MaskRuns.{is_in_runs}
use Rattle.vx_base.proofs.MaskRuns.{bits_of_marked}
use Rattle.vx_base.proofs.mask_values.MaskValues.bit_buffer.Goals as goal

pub returns-clause-bits : goal.returns-clause-bits
returns-clause-bits c =
    let v = c.self.inside in
    let bits = c.mark_runs.new.out in
    let items : (with_items c.in_ok-bytes.bytes bits).items ≡ bits = with_items_is c.in_ok-bytes.bytes bits (omega (arith, c.deref_mut.ensures.len, c.mark_runs.ensures.len)) in
    ap bits_of c.from_parts.ensures ∙ ap (λ (bs : List ℕ). unpacked bs 0 v.len) (c.in_ok-from_vec.ensures ∙ items)
    ∙ bits_of_marked bits (c.div_ceil.result) v.len v.runs.items (λ k. c.mark_runs.ensures.marked k ∙ ap (λ (bs : List ℕ). bit_of bs k || is_in_runs c.deref.result.now k) (c.deref_mut.ensures.value ∙ c.in_ok-bytes.ensures.items_if_clones_equal (λ y h. h))
    ∙ ap (λ rs. bit_of (replicate c.div_ceil.result 0) k || is_in_runs rs k) c.deref.ensures.value)
    ∙ c.self.view_is

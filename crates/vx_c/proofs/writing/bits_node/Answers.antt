use Rattle.std.proofs.Common.{◌∙◌, ◌++◌, ℕ, List, false, length, replicate, refl, sym, ap}
use Rattle.vx_base.specs.Bits.{PackedBits, unpacked}
use Rattle.vx_pack.specs.BitBytes.{bits_bytes}
use Rattle.vx_c.proofs.WrittenLayouts.{bits_node}
use Rattle.vx_c.proofs.writing.bits_node.Goals as goal

pub returns : goal.returns
returns c =
    let bits = c.args.bits.now in
    let same = c.in_ok-try_clone.ensures in
    let parts = c.into_inner-offset.result in
    let told = c.into_inner-offset.ensures in
    let written = c.in_ok-bits_bytes.ensures
    ∙ ap (λ (bs : List ℕ). bits_bytes (replicate parts.0 false ++ unpacked bs parts.0 parts.1)) c.as_slice.ensures.value in
    bits_node _ bits.offset bits.bits c.args.validity parts.0 parts.1 parts.2 refl refl refl refl refl c.new.ensures.items c.none.ensures written
    (told.len ∙ ap (λ (b : PackedBits). length b.bits) same) told.fits (told.offset ∙ ap (λ (b : PackedBits). b.offset) same) told.below
    (sym (ap (λ (b : PackedBits). b.bits) same) ∙ told.bits)

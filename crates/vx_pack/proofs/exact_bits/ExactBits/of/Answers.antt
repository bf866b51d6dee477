use Rattle.std.proofs.Common.{◌≡◌, ◌∙◌, List, ℕ, ap, sym, arith}
use Rattle.vx_base.specs.Bits.{unpacked}
use Rattle.vx_pack.proofs.PackedBytes.{exact_bits, exact_bytes, exact_len}
use Rattle.vx_pack.proofs.exact_bits.ExactBits.of.Goals as goal

pub invariant_of-result : goal.invariant_of-result
invariant_of-result c =
    let parts = c.into_inner-first.result in
    let old = c.as_slice.result.now in
    let new = c.in_ok-bytes.bytes.items in
    let none : parts.0 ≡ 0 = c.into_inner-first.ensures.offset ∙ c.in_ok-freeze.ensures.offset in (
      exact_len old new parts.0 parts.1 none c.in_ok-bytes.ensures,
      omega (arith, c.into_inner-first.ensures.fits),
      exact_bytes old new parts.0 parts.1 none c.in_ok-bytes.ensures,
    )

pub returns : goal.returns
returns c =
    let parts = c.into_inner-first.result in
    let none : parts.0 ≡ 0 = c.into_inner-first.ensures.offset ∙ c.in_ok-freeze.ensures.offset in
    exact_bits c.as_slice.result.now c.in_ok-bytes.bytes.items parts.0 parts.1 none c.in_ok-bytes.ensures
    ∙ ap (λ (bs : List ℕ). unpacked bs parts.0 parts.1) c.as_slice.ensures.value ∙ sym c.into_inner-first.ensures.bits ∙ c.in_ok-freeze.ensures.bits

use Rattle.std.proofs.Common.{◌≡◌, ◌+◌, ◌/◌, ◌++◌, ◌<◌, ◌≤◌, ℕ, List, false, length, take, drop, sym, ◌∙◌, ap, arith}
use Rattle.std.proofs.lemmas.List.{length-take-le}
use Rattle.vx_base.specs.Bits.{bit_of}
use Rattle.vx_pack.proofs.PackedBytes.{bytes_of_bits, bit_of-cut}
use Rattle.vx_pack.proofs.MaskedBits.{all_written}
use Rattle.vx_pack.proofs.bit_bytes.bits_bytes.Goals as goal

pub returns : goal.returns
returns c =
    let bytes = c.args.bytes.now in
    let first = c.args.first in
    let count = c.args.count in
    let made = c.in_ok-made.made in
    let begun = c.clear_before.new.bytes in
    let ended = c.clear_after.new.bytes in
    let cut : made.items ≡ take c.div_ceil.result bytes = c.in_ok-made.ensures.items in
    let cut_len : length made.items ≡ c.div_ceil.result =
    ap length cut ∙ length-take-le c.div_ceil.result bytes (omega (arith, c.div_ceil.ensures, c.requires.in_bounds)) in
    let begun_len : length begun ≡ length made.items = c.clear_before.ensures.len ∙ ap length c.deref_mut.ensures.value in
    let between : c.deref_mut-2.result.now ≡ begun = c.deref_mut-2.ensures.value ∙ all_written made.items begun made.len begun_len made.ok.0 in
    let written = all_written (take made.len (begun ++ drop (length begun) made.items)) ended made.len
    (c.clear_after.ensures.len ∙ ap length c.deref_mut-2.ensures.value) (sym c.deref_mut-2.ensures.len ∙ ap length c.deref_mut-2.ensures.value) in
    let before : (k : ℕ) → k < first → bit_of ended k ≡ false = λ k early.
    c.clear_after.ensures.kept k (omega (arith, early)) ∙ ap (λ (bs : List ℕ). bit_of bs k) between ∙ c.clear_before.ensures.cleared k early in
    let within : (k : ℕ) → first ≤ k → k < first + count → bit_of ended k ≡ bit_of bytes k = λ k late inside.
    c.clear_after.ensures.kept k inside ∙ ap (λ (bs : List ℕ). bit_of bs k) between ∙ c.clear_before.ensures.kept k late
    ∙ ap (λ (bs : List ℕ). bit_of bs k) (c.deref_mut.ensures.value ∙ cut) ∙ bit_of-cut bytes c.div_ceil.result k (omega (arith, c.div_ceil.ensures, inside)) in
    let long : length ended ≡ (first + count + 7) / 8 = omega (arith, c.clear_after.ensures.len, c.deref_mut-2.ensures.len, made.ok.0, cut_len, c.div_ceil.ensures) in
    written ∙ bytes_of_bits bytes ended first count long c.clear_after.ensures.bytes before within c.clear_after.ensures.cleared

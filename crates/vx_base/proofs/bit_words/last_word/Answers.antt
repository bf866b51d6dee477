use Rattle.std.proofs.Common.{ℕ, ◌≡◌, ◌∙◌, eqb, get_or, ap, arith}
use Rattle.std.specs.Int.{bit_at, w64, from_le_bytes}
use Rattle.vx_base.proofs.Packing.{eight_from}
use Rattle.vx_base.proofs.BitWords.{word_bits}
use Rattle.vx_base.proofs.bit_words.last_word.Goals as goal

pub returns : goal.returns
returns c = λ i h.
    let bs = c.args.bytes.now in
    let word : c.from_le_bytes.result ≡ from_le_bytes w64 (eight_from (λ n. get_or bs n 0) c.args.at) =
    omega (arith, c.from_le_bytes.ensures, c.byte_or_zero.ensures, c.byte_or_zero-2.ensures, c.byte_or_zero-3.ensures, c.byte_or_zero-4.ensures, c.byte_or_zero-5.ensures, c.byte_or_zero-6.ensures, c.byte_or_zero-7.ensures, c.byte_or_zero-8.ensures) in
    ap (λ (n : ℕ). eqb (bit_at n i) 1) word ∙ word_bits bs c.args.at i (λ j. (c.type_inv.bytes j).fits) h

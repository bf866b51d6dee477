use Rattle.std.proofs.Common.{ℕ, ◌+◌, ◌*◌, take, count_by, refl, sym, ap, ◌∙◌, arith}
use Rattle.std.specs.Prelude.{count_ones}
use Rattle.std.specs.Int.{w64, from_le_bytes}
use Rattle.std.proofs.lemmas.List.{take_all}
use Rattle.std.proofs.lemmas.Nat.{ones-le}
use Rattle.vx_base.specs.Bits.{unpacked}
use Rattle.vx_base.proofs.PackedBits.{length_unpacked}
use Rattle.vx_base.proofs.Packing.{chunk_of_eight, count_word}
use Rattle.vx_base.proofs.bit_words.count_words.Goals as goal

pub overflow_add-count : goal.overflow_add-count
overflow_add-count c =
    let few = ones-le 64 c.from_le_bytes.result c.from_le_bytes.type_inv in
    omega arith

pub loop-j-preserved : goal.loop-j-preserved
loop-j-preserved c =
    let bs = c.args.bytes.now in
    let word = c.from_le_bytes.result in
    let few = ones-le 64 word c.from_le_bytes.type_inv in
    let chunk = chunk_of_eight bs c.as_chunks.result.0.now _ _ c.loop-j.j (omega arith) c.as_chunks.ensures.front refl in
    let more = count_word bs (64 * c.args.words) c.loop-j.j (omega arith) (λ i. (c.type_inv.bytes i).fits) in (
      omega arith,
      ap (λ (n : ℕ). n + count_ones word) c.loop-j.invariant.1 ∙ ap (λ (n : ℕ). count_by (λ b. b) (take (64 * c.loop-j.j) (unpacked bs 0 (64 * c.args.words))) + count_ones n) (c.from_le_bytes.ensures ∙ ap (from_le_bytes w64) chunk) ∙ sym more,
    )

pub returns-clause-value : goal.returns-clause-value
returns-clause-value c =
    let bits = unpacked c.args.bytes.now 0 (64 * c.args.words) in
    c.loop-j.invariant.1 ∙ ap (count_by (λ b. b)) (take_all (64 * c.loop-j.j) bits (omega (arith, length_unpacked c.args.bytes.now 0 (64 * c.args.words))))

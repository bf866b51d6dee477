use Rattle.std.proofs.Common.{ℕ, ◌∙◌, eqb, ap}
use Rattle.std.specs.Int.{bit_at}
use Rattle.vx_base.proofs.BitWords.{word_bits}
use Rattle.vx_leaves.proofs.valid_rows.eight_bytes.Goals as goal

pub returns : goal.returns
returns c = λ i h. ap (λ (n : ℕ). eqb (bit_at n i) 1) c.from_le_bytes.ensures ∙ word_bits c.args.bytes.now c.args.at i (λ j. (c.type_inv.bytes j).fits) h

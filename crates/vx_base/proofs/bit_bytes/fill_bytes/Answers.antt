use Rattle.std.proofs.Common.{ℕ, ◌*◌, ◌∙◌, eqb, ap, arith}
use Rattle.std.specs.Int.{bit_at}
use Rattle.vx_base.proofs.Filling.{like_bit, written_byte}
use Rattle.vx_base.proofs.bit_bytes.fill_bytes.Goals as goal

pub loop-j-preserved : goal.loop-j-preserved
loop-j-preserved c =
    written_byte c.args.bytes.now c.loop-j.bytes (8 * c.args.first) c.loop-j.j c.byte_like-byte.result (λ k. c.args.value) (omega arith) (omega arith)
    (λ i h. ap (λ (b : ℕ). eqb (bit_at b i) 1) c.byte_like-byte.ensures ∙ like_bit c.args.value i h) c.loop-j.invariant

use Rattle.std.proofs.Common.{◌-◌, ◌*◌, ◌/◌, ◌%◌, ◌^◌, eqb, arith}
use Rattle.std.specs.Int.{bit_at}
use Rattle.vx_base.proofs.BitWords.{byte_of_word}
use Rattle.vx_base.proofs.Filling.{written_none, written_byte}
use Rattle.vx_base.proofs.bit_words.put_each.Goals as goal

pub loop-j-init : goal.loop-j-init
loop-j-init c = written_none c.args.out.now (8 * c.args.first) (λ k. eqb (bit_at c.args.word (k - 8 * c.args.first)) 1)

pub loop-j-preserved : goal.loop-j-preserved
loop-j-preserved c =
    let word = c.args.word in
    let first = c.args.first in
    let j = c.loop-j.j in
    written_byte c.args.out.now c.loop-j.out (8 * first) j (word / 2 ^ (8 * (j - first)) % 256) (λ k. eqb (bit_at word (k - 8 * first)) 1) (omega arith) (omega arith)
    (λ i h. byte_of_word word first j i (omega arith) h) c.loop-j.invariant

use Rattle.std.proofs.Common.{arith}
use Rattle.vx_base.proofs.BitWords.{word_before, word_after}
use Rattle.vx_base.proofs.bit_words.put_word.Goals as goal

pub returns-clause-before : goal.returns-clause-before
returns-clause-before c = word_before c.args.out.now c.put_bytes.new.out c.args.at c.div_ceil.result c.args.word c.low_bits.result c.low_bits.ensures.kept c.low_bits.ensures.cleared c.put_bytes.ensures.before c.put_bytes.ensures.written (omega arith)

pub returns-clause-written : goal.returns-clause-written
returns-clause-written c = λ k h l. word_after c.args.out.now c.put_bytes.new.out c.args.at c.div_ceil.result c.args.word c.low_bits.result c.low_bits.ensures.kept c.low_bits.ensures.cleared c.put_bytes.ensures.before c.put_bytes.ensures.written k h (omega arith) (omega arith)

use Rattle.std.proofs.Common.{arith}
use Rattle.vx_base.proofs.Packing.{and_more}
use Rattle.vx_base.proofs.bit_ands.and_by_words.Goals as goal

pub loop-j-preserved : goal.loop-j-preserved
loop-j-preserved c = λ k h l.
    and_more c.args.left.now c.args.right.now c.loop-j.out c.put_bytes.new.out c.args.from c.args.at c.loop-j.j c.min.result c.bits_from.result c.bits_from-in-loop-j.result
    c.bits_from.ensures c.bits_from-in-loop-j.ensures c.put_bytes.ensures.before c.put_bytes.ensures.written c.loop-j.invariant k h (omega arith) (omega arith)

use Rattle.std.proofs.Common.{arith}
use Rattle.vx_base.proofs.Packing.{and_put_joined}
use Rattle.vx_base.proofs.bit_ands.and_by_bytes.Goals as goal

pub loop-j-preserved : goal.loop-j-preserved
loop-j-preserved c = λ k h. rw (c.byte_from.ensures, c.byte_from-in-loop-j.ensures) (and_put_joined c.args.left.now c.args.right.now c.loop-j.out c.args.from c.args.at c.loop-j.j (omega arith) c.loop-j.invariant k h)

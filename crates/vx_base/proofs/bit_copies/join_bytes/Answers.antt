use Rattle.std.proofs.Common.{arith}
use Rattle.vx_base.proofs.Packing.{join_put}
use Rattle.vx_base.proofs.bit_copies.join_bytes.Goals as goal

pub loop-j-preserved : goal.loop-j-preserved
loop-j-preserved c = join_put c.args.source.now c.loop-j.out c.args.shift c.loop-j.j (omega arith) (omega arith) (λ i. (c.type_inv.source i).fits) c.loop-j.invariant

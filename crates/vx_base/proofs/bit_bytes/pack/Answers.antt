use Rattle.std.proofs.Common.{length, refl, arith}
use Rattle.vx_base.specs.Bits.{bool_at}
use Rattle.vx_base.proofs.Packing.{eight_packed, packed_all}
use Rattle.vx_base.proofs.bit_bytes.pack.Goals as goal

pub loop-j-preserved : goal.loop-j-preserved
loop-j-preserved c = eight_packed c.loop-j.out (bool_at c.args.bools.now) c.loop-j.j c.byte_of.result (omega arith) c.byte_of.ensures c.loop-j.invariant

pub returns-clause-bits : goal.returns-clause-bits
returns-clause-bits c = packed_all c.loop-i.out c.args.bools.now (length c.args.bools.now) refl (λ k h. c.loop-i.invariant k (omega arith))

use Rattle.std.proofs.Common.{arith}
use Rattle.vx_base.proofs.Packing.{eight}
use Rattle.vx_base.proofs.bit_bytes.byte_of.Goals as goal

pub returns : goal.returns
returns c = eight c.args.bits (omega arith)

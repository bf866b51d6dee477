use Rattle.std.proofs.Common.{arith}
use Rattle.vx_c.proofs.PartsMade.{values_made}
use Rattle.vx_c.proofs.passing.values_of.Goals as goal

pub returns : goal.returns
returns c = λ null ps.
    values_made c.args.node.now (omega arith) (c.are_values.ensures c.if-not-are_values.false) null ps

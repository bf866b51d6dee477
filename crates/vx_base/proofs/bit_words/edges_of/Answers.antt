use Rattle.std.proofs.Common.{arith}
use Rattle.vx_base.proofs.Edges.{edges_told, edges_none}
use Rattle.vx_base.proofs.bit_words.edges_of.Goals as goal

pub returns-clause-edges : goal.returns-clause-edges
returns-clause-edges c = λ i l. edges_told c.args.word c.args.count i c.args.before (omega arith) l

pub returns-clause-none : goal.returns-clause-none
returns-clause-none c = λ i l. edges_none _ c.args.count i (omega arith) l

use Rattle.std.proofs.Common.{arith}
use Rattle.vx_c.proofs.PartsMade.{texts_made}
use Rattle.vx_c.proofs.passing.texts_of.Goals as goal

pub returns : goal.returns
returns c = λ null ps.
    texts_made c.args.node.now (omega arith) (c.are_text_views.ensures c.if-not-are_text_views.false) null ps

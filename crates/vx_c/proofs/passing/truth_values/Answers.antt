use Rattle.vx_c.proofs.PartsMade.{truths_made, nullable_truths_made}
use Rattle.vx_c.proofs.passing.truth_values.Goals as goal

pub returns-then-null : goal.returns-then-null
returns-then-null c = λ ps. nullable_truths_made c.args.node.now (c.has_bits.ensures c.if-not-has_bits.false) c.args.null ps

pub returns : goal.returns
returns c = λ ps. truths_made c.args.node.now (c.has_bits.ensures c.if-not-has_bits.false) c.args.null c.if-null.false ps

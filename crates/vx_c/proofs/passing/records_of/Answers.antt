use Rattle.std.proofs.Common.{reverse}
use Rattle.vx_c.proofs.PartsMade.{records_passed}
use Rattle.vx_c.proofs.passing.records_of.Goals as goal

pub returns : goal.returns
returns c = λ null.
    records_passed c.args.node.now (reverse c.args.parts.now.items) (reverse c.take_columns.new.parts.items) (c.are_text_buffers.ensures c.if-not-are_text_buffers.false)
    (c.take_columns.ensures c.if-not-take_columns.false) null

use Rattle.std.proofs.Common.{arith}
use Rattle.vx_base.proofs.Filling.{filled_true, filled_false}
use Rattle.vx_base.proofs.bit_bytes.put_in_byte.Goals as goal

pub returns-then-value-clause-filled : goal.returns-then-value-clause-filled
returns-then-value-clause-filled c = rw c.if-value.true (filled_true c.args.bytes.now c.args.start c.args.end c.requires.start_le_end c.requires.one_byte (omega arith))

pub returns-else-value-clause-filled : goal.returns-else-value-clause-filled
returns-else-value-clause-filled c = rw c.if-value.false (filled_false c.args.bytes.now c.args.start c.args.end c.requires.start_le_end c.requires.one_byte (omega arith))

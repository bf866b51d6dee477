use Rattle.std.proofs.Common.{◌∙◌, sym}
use Rattle.vx_base.proofs.PackedBits.{bit_of-set_same, bit_of-set_other, bit_of-clear_same, bit_of-clear_other}
use Rattle.vx_base.proofs.bit_bytes.put_bit.Goals as goal

pub returns-then-value-clause-written : goal.returns-then-value-clause-written
returns-then-value-clause-written c = bit_of-set_same _ c.args.k c.requires ∙ sym c.if-value.true

pub returns-then-value-clause-others : goal.returns-then-value-clause-others
returns-then-value-clause-others c = λ j ne. bit_of-set_other _ c.args.k j c.requires ne

pub returns-else-value-clause-written : goal.returns-else-value-clause-written
returns-else-value-clause-written c = bit_of-clear_same _ c.args.k c.requires ∙ sym c.if-value.false

pub returns-else-value-clause-others : goal.returns-else-value-clause-others
returns-else-value-clause-others c = λ j ne. bit_of-clear_other _ c.args.k j c.requires ne

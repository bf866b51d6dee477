use Rattle.std.proofs.Common.{◌∙◌, sym}
use Rattle.vx_base.proofs.PackedBits.{bit_of-clear_same, bit_of-clear_other}
use Rattle.vx_tree.proofs.PatchedBits.{bit_of-reset_same, bit_of-reset_other}
use Rattle.vx_tree.proofs.validity.patched_bits.put_bit.Goals.{then-value, else-value}
use Rattle.vx_tree.proofs.validity.patched_bits.put_bit.Goals as goal

pub returns-clause-written : goal.returns-clause-written
returns-clause-written c = elim c.if-value.branch [
  | then-value w ↦ rw w.bytes-is (bit_of-reset_same _ c.args.k c.requires ∙ sym w.if-value.true)
  | else-value w ↦ rw w.bytes-is (bit_of-clear_same _ c.args.k c.requires ∙ sym w.if-value.false)
]

pub returns-clause-others : goal.returns-clause-others
returns-clause-others c = λ j ne. elim c.if-value.branch [
  | then-value w ↦ rw w.bytes-is (bit_of-reset_other _ c.args.k j c.requires ne)
  | else-value w ↦ rw w.bytes-is (bit_of-clear_other _ c.args.k j c.requires ne)
]

use Rattle.vx_tree.specs.Parts.{valid_of}
use Rattle.vx_base.proofs.Refused.{Gives-weaker}
use Rattle.vx_tree.proofs.Validities.{array_turned}
use Rattle.vx_tree.proofs.validity.rows.opposite_of.Goals as goal

pub returns : goal.returns
returns c =
    Gives-weaker c.told_by.result _ _
    (λ w e n h. array_turned c.args.array.now (valid_of w) c.in_ok-plain_bits.field-0.bits c.in_ok-bits.bits.bits n e c.in_ok-bits.ensures c.in_ok-plain_bits.ensures.bits h)
    c.told_by.ensures

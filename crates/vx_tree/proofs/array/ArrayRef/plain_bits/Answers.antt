use Rattle.std.proofs.Common.{ap, sym, ◌∙◌}
use Rattle.vx_base.specs.Bits.{bits_of}
use Rattle.vx_tree.specs.Parts.{tree_of, valid_of}
use Rattle.vx_base.proofs.Refused.{Gives-weaker}
use Rattle.vx_tree.proofs.Masks.{bits_are_truths, truths_of_constant}
use Rattle.vx_tree.proofs.array.ArrayRef.plain_bits.Goals as goal

pub returns-in-Bool-clause-bits : goal.returns-in-Bool-clause-bits
returns-in-Bool-clause-bits c =
    Gives-weaker c.try_clone.result _ _
    (λ b e. ap bits_of e ∙ bits_are_truths c.args.self.now c.in-Bool.bits.bits (valid_of c.in-Bool.validity) (sym c.layout.ensures.parts ∙ ap tree_of c.in-Bool.is) c.requires)
    c.try_clone.ensures

pub returns-in-Constant-clause-bits : goal.returns-in-Constant-clause-bits
returns-in-Constant-clause-bits c =
    Gives-weaker c.full.result _ _
    (λ b e. rw c.as_bool.ensures at e ∙ truths_of_constant c.args.self.now c.in-Constant.scalar.kind c.in-Constant.scalar.row c.in-Constant.len (sym c.layout.ensures.parts ∙ ap tree_of c.in-Constant.is))
    c.full.ensures.bits

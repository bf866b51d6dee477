use Rattle.std.proofs.Common.{ap, ◌∙◌}
use Rattle.vx_base.proofs.Refused.{Gives-weaker}
use Rattle.vx_tree.specs.Parts.{valid_of}
use Rattle.vx_tree.proofs.Masks.{all_true_mask, all_valid_mask, all_invalid_mask}
use Rattle.vx_tree.proofs.array.Validity.bits.Goals as goal

pub returns-in-NonNullable : goal.returns-in-NonNullable
returns-in-NonNullable c =
    Gives-weaker c.new_set.result _ _ (λ b h. h ∙ all_true_mask (valid_of c.args.self.now) c.args.len (ap valid_of c.in-NonNullable.is)) c.new_set.ensures.bits

pub returns-in-AllValid : goal.returns-in-AllValid
returns-in-AllValid c =
    Gives-weaker c.new_set-in-AllValid.result _ _ (λ b h. h ∙ all_valid_mask (valid_of c.args.self.now) c.args.len (ap valid_of c.in-AllValid.is)) c.new_set-in-AllValid.ensures.bits

pub returns-in-AllInvalid : goal.returns-in-AllInvalid
returns-in-AllInvalid c =
    Gives-weaker c.new_unset.result _ _ (λ b h. h ∙ all_invalid_mask (valid_of c.args.self.now) c.args.len (ap valid_of c.in-AllInvalid.is)) c.new_unset.ensures.bits

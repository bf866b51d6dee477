use Rattle.std.proofs.Common.{ap, ◌∙◌}
use Rattle.vx_tree.specs.Parts.{valid_of}
use Rattle.vx_tree.proofs.Masks.{all_true_mask, all_valid_mask, all_invalid_mask}
use Rattle.vx_tree.proofs.array.Validity.execute_mask.Goals as goal

pub returns-in-NonNullable-clause-mask : goal.returns-in-NonNullable-clause-mask
returns-in-NonNullable-clause-mask c = c.new_true.ensures ∙ all_true_mask (valid_of c.args.self.now) c.args.len (ap valid_of c.in-NonNullable.is)

pub returns-in-AllValid-clause-mask : goal.returns-in-AllValid-clause-mask
returns-in-AllValid-clause-mask c = c.new_true-in-AllValid.ensures ∙ all_valid_mask (valid_of c.args.self.now) c.args.len (ap valid_of c.in-AllValid.is)

pub returns-in-AllInvalid-clause-mask : goal.returns-in-AllInvalid-clause-mask
returns-in-AllInvalid-clause-mask c = c.new_false.ensures ∙ all_invalid_mask (valid_of c.args.self.now) c.args.len (ap valid_of c.in-AllInvalid.is)

use Rattle.std.proofs.Common.{◌∙◌, ap, sym}
use Rattle.std.specs.Prelude.{count_by}
use Rattle.vx_base.proofs.MaskCounts.{count-all_true, count-all_false}
use Rattle.vx_tree.specs.Parts.{valid_of}
use Rattle.vx_tree.proofs.Masks.{all_true_mask, all_valid_mask, all_invalid_mask}
use Rattle.vx_tree.proofs.array.Validity.valid_count.Goals as goal

pub returns-in-NonNullable-clause-count : goal.returns-in-NonNullable-clause-count
returns-in-NonNullable-clause-count c = sym (count-all_true c.args.len) ∙ ap (count_by (λ b. b)) (all_true_mask (valid_of c.args.self.now) c.args.len (ap valid_of c.in-NonNullable.is))

pub returns-in-AllValid-clause-count : goal.returns-in-AllValid-clause-count
returns-in-AllValid-clause-count c = sym (count-all_true c.args.len) ∙ ap (count_by (λ b. b)) (all_valid_mask (valid_of c.args.self.now) c.args.len (ap valid_of c.in-AllValid.is))

pub returns-in-AllInvalid-clause-count : goal.returns-in-AllInvalid-clause-count
returns-in-AllInvalid-clause-count c = sym (count-all_false c.args.len) ∙ ap (count_by (λ b. b)) (all_invalid_mask (valid_of c.args.self.now) c.args.len (ap valid_of c.in-AllInvalid.is))

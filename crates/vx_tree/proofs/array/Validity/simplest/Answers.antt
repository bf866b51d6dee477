use Rattle.std.proofs.Common.{arith, ◌∙◌, ap}
use Rattle.vx_tree.specs.Meaning.{valid_mask}
use Rattle.vx_tree.specs.Parts.{valid_of}
use Rattle.vx_tree.proofs.Validities.{simplest-mask, nulls_and_valid}
use Rattle.vx_tree.proofs.array.Validity.simplest.Goals as goal

pub overflow_sub-result : goal.overflow_sub-result
overflow_sub-result c = omega (arith, c.in_ok-valid_count.ensures.count, nulls_and_valid (valid_of c.args.self.now) c.args.len)

pub returns-clause-mask : goal.returns-clause-mask
returns-clause-mask c = ap (λ v. valid_mask v c.args.len) c.in_ok-validity.ensures ∙ simplest-mask (valid_of c.args.self.now) c.args.len

pub returns-clause-nulls : goal.returns-clause-nulls
returns-clause-nulls c = omega (arith, c.in_ok-valid_count.ensures.count, nulls_and_valid (valid_of c.args.self.now) c.args.len)

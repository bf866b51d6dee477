use Rattle.vx_base.specs.DTypes.{is_nullable}
use Rattle.vx_tree.proofs.Validities.{valid_from-mask}
use Rattle.vx_tree.proofs.array.Validity.from_mask.Goals as goal

pub returns-clause-mask : goal.returns-clause-mask
returns-clause-mask c = rw c.in_ok-validity.ensures (valid_from-mask 0 c.args.mask (is_nullable c.args.nullability))

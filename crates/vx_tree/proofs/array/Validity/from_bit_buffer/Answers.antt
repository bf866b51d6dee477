use Rattle.vx_base.specs.DTypes.{is_nullable}
use Rattle.vx_tree.proofs.Validities.{valid_from-mask}
use Rattle.vx_tree.proofs.array.Validity.from_bit_buffer.Goals as goal

pub returns-clause-mask : goal.returns-clause-mask
returns-clause-mask c = rw c.in_ok-validity.ensures (valid_from-mask c.args.bits.offset c.args.bits.bits (is_nullable c.args.nullability))

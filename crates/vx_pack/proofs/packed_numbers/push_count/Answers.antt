use Rattle.std.proofs.Common.{subst, sym}
use Rattle.vx_base.proofs.Positions.{signed_position}
use Rattle.vx_base.specs.Integers.{Holds}
use Rattle.vx_pack.proofs.packed_numbers.push_count.Goals as goal

pub push_number-requires : goal.push_number-requires
push_number-requires c = subst (λ z. Holds c.args.ptype z) (sym (signed_position c.args.count c.ranges.count.fits)) c.requires

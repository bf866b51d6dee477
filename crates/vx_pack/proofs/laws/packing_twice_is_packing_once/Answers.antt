use Rattle.vx_pack.proofs.PackedLaws.{packed_once}
use Rattle.vx_pack.proofs.laws.packing_twice_is_packing_once.Goals as goal

pub returns : goal.returns
returns c = packed_once

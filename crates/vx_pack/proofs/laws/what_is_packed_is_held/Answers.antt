use Rattle.vx_pack.proofs.PackedLaws.{packed_is_held}
use Rattle.vx_pack.proofs.laws.what_is_packed_is_held.Goals as goal

pub returns : goal.returns
returns c = packed_is_held

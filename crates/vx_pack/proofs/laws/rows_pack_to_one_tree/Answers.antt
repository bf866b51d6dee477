use Rattle.vx_pack.proofs.PackedOne.{packed_is_one}
use Rattle.vx_pack.proofs.laws.rows_pack_to_one_tree.Goals as goal

pub returns : goal.returns
returns c = packed_is_one

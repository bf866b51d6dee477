use Rattle.vx_pack.proofs.PackedLaws.{packed_keeps_rows}
use Rattle.vx_pack.proofs.laws.packing_keeps_rows.Goals as goal

pub returns : goal.returns
returns c = packed_keeps_rows

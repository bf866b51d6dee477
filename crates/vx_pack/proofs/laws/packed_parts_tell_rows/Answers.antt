use Rattle.vx_pack.proofs.PackedLaws.{packed_tells_rows}
use Rattle.vx_pack.proofs.laws.packed_parts_tell_rows.Goals as goal

pub returns : goal.returns
returns c = packed_tells_rows

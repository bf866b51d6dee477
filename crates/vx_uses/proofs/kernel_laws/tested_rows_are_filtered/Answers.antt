use Rattle.vx_uses.proofs.ReadRows.{filtered-map, length-told}
use Rattle.vx_uses.proofs.kernel_laws.tested_rows_are_filtered.Goals as goal

pub returns-clause-rows : goal.returns-clause-rows
returns-clause-rows c = filtered-map

pub returns-clause-len : goal.returns-clause-len
returns-clause-len c = length-told

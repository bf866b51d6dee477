use Rattle.vx_tree.proofs.RowLists.{length-valid_mask, get_or-valid_mask, valid_mask-bits}
use Rattle.vx_tree.proofs.row_laws.masks_stand_at_their_places.Goals as goal

pub returns-clause-len : goal.returns-clause-len
returns-clause-len c = length-valid_mask

pub returns-clause-each : goal.returns-clause-each
returns-clause-each c = get_or-valid_mask

pub returns-clause-bits : goal.returns-clause-bits
returns-clause-bits c = valid_mask-bits

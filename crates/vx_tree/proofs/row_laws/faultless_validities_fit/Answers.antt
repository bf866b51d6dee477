use Rattle.vx_tree.proofs.RowLists.{faultless_fits}
use Rattle.vx_tree.proofs.row_laws.faultless_validities_fit.Goals as goal

pub returns : goal.returns
returns c = faultless_fits

use Rattle.vx_tree.proofs.Fitting.{rows_fit}
use Rattle.vx_tree.proofs.laws.rows_fit_their_kind.Goals as goal

pub returns : goal.returns
returns c = rows_fit

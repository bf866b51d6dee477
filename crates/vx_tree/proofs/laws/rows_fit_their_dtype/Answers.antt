use Rattle.vx_tree.proofs.Fitting.{rows_fit}
use Rattle.vx_tree.proofs.laws.rows_fit_their_dtype.Goals as goal

pub returns : goal.returns
returns c = λ i l. rows_fit c.args.array.now c.known.ensures i l

use Rattle.vx_base.proofs.MaskRuns.{marked_from_trues}
use Rattle.vx_base.proofs.laws.runs_of_true_rows_mark_them.Goals as goal

pub returns : goal.returns
returns c = marked_from_trues

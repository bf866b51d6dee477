use Rattle.vx_base.proofs.MaskRuns.{bool_at-marked}
use Rattle.vx_base.proofs.laws.marked_rows_lie_in_runs.Goals as goal

pub returns : goal.returns
returns c = bool_at-marked

use Rattle.vx_base.proofs.MaskRuns.{same_from_marked}
use Rattle.vx_base.proofs.laws.maximal_runs_are_one.Goals as goal

pub returns : goal.returns
returns c = same_from_marked

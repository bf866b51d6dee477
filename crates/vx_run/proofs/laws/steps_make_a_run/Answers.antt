use Rattle.vx_run.proofs.StepRuns.{has_run}
use Rattle.vx_run.proofs.laws.steps_make_a_run.Goals as goal

pub returns : goal.returns
returns c = has_run

use Rattle.vx_c.proofs.ColumnRuns.{runs_are_runs, stops_are_stops}
use Rattle.vx_c.proofs.laws.runs_of_steps_are_runs.Goals as goal

pub returns-clause-runs : goal.returns-clause-runs
returns-clause-runs c = runs_are_runs

pub returns-clause-stops : goal.returns-clause-stops
returns-clause-stops c = stops_are_stops

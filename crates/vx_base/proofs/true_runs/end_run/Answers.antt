use Rattle.vx_base.proofs.Edges.{ended_run, ended_rows}
use Rattle.vx_base.proofs.true_runs.end_run.Goals as goal

pub returns-in_ok-push-clause-apart : goal.returns-in_ok-push-clause-apart
returns-in_ok-push-clause-apart c = ended_run c.args.from.at c.args.to c.args.from.is_true c.args.runs.now.items c.push.new.self.items c.if-from.true c.in_ok-push.ensures.items c.requires

pub returns-in_ok-push-clause-rows : goal.returns-in_ok-push-clause-rows
returns-in_ok-push-clause-rows c = ended_rows c.args.from.at c.args.to c.args.from.is_true c.args.runs.now.items c.push.new.self.items c.if-from.true c.in_ok-push.ensures.items

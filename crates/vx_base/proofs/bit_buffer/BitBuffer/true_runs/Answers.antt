use Rattle.vx_base.proofs.Edges.{marked_added}
use Rattle.vx_base.proofs.bit_buffer.BitBuffer.true_runs.Goals as goal

pub returns-clause-rows : goal.returns-clause-rows
returns-clause-rows c = marked_added c.args.self.now.bits c.in_ok-runs.runs.items c.push_runs.new.runs.items c.in_ok-runs.ensures.items (rw c.len.ensures at c.in_ok-push_runs.ensures.rows)

use Rattle.std.proofs.Common.{ℕ, ◌≤◌, length, get_or, take}
use Rattle.std.proofs.lemmas.List.Elements.{All-take}
use Rattle.vx_base.proofs.MaskRuns.{AreRuns-last, ends_before}
use Rattle.vx_base.proofs.Edges.{within_start, within_more, within_rows}
use Rattle.vx_base.proofs.bit_buffer.BitBuffer.true_runs_within.Goals as goal

pub push_runs-requires-clause-runs : goal.push_runs-requires-clause-runs
push_runs-requires-clause-runs c =
    let i = c.loop-run.run-index in
    c.loop-run.invariant.apart (get_or c.args.within.now i (0, 0)).0 (ends_before (length c.args.self.now.bits) i c.args.within.now (0, 0) c.loop-run-test.true c.requires)

pub push_runs-requires-clause-apart : goal.push_runs-requires-clause-apart
push_runs-requires-clause-apart c =
    let i = c.loop-run.run-index in
    within_start (get_or c.args.within.now i (0, 0)).0 (take i c.args.within.now) c.loop-run.runs.items c.loop-run.invariant.apart
    (AreRuns-last (length c.args.self.now.bits) i c.args.within.now (0, 0) c.loop-run-test.true c.requires)

pub loop-run-preserved : goal.loop-run-preserved
loop-run-preserved c =
    let i = c.loop-run.run-index in
    record {
      apart = within_more i c.args.within.now c.push_runs.new.runs.items (0, 0) c.loop-run-test.true c.in_ok-push_runs.ensures.apart;
      rows = within_rows c.args.self.now.bits i c.args.within.now c.loop-run.runs.items c.push_runs.new.runs.items (0, 0) c.loop-run-test.true c.loop-run.invariant.rows c.in_ok-push_runs.ensures.rows;
    }

pub returns-clause-apart : goal.returns-clause-apart
returns-clause-apart c =
    let n = length c.args.self.now.bits in
    c.loop-run.invariant.apart n (All-take (λ (r : ℕ × ℕ). r.1 ≤ n) c.loop-run.run-index c.args.within.now c.requires.within)

use Rattle.std.proofs.Common.{◌≡◌, ◌-◌, ◌++◌, take, get_or, length, sym, ap, ◌∙◌, arith}
use Rattle.std.specs.List.{flat_map, range_with_len}
use Rattle.std.proofs.lemmas.List.Folds.{length-flat_map-take}
use Rattle.std.proofs.lemmas.List.FromFn.{length-range_with_len}
use Rattle.vx_base.specs.Selections.{run_positions}
use Rattle.vx_base.proofs.Runs.{runs_more}
use Rattle.vx_base.proofs.position_runs.push_runs.Goals as goal

pub push_positions-requires-clause-room : goal.push_positions-requires-clause-room
push_positions-requires-clause-room c =
    let runs = c.args.runs.now in
    let run = get_or runs c.loop-run.run-index (0, 0) in
    let more = length-flat_map-take run_positions runs c.loop-run.run-index (0, 0) c.loop-run-test.true in
    omega (arith, more, length-range_with_len run.0 (run.1 - run.0), c.max.ensures, ap length c.loop-run.invariant.pushed, c.loop-run.positions.ok.0, c.loop-run.invariant.capacity, c.requires.room)

pub loop-run-preserved : goal.loop-run-preserved
loop-run-preserved c =
    let runs = c.args.runs.now in
    let i = c.loop-run.run-index in
    let run = get_or runs i (0, 0) in
    let count : c.max.result - run.0 ≡ run.1 - run.0 = omega (arith, c.max.ensures) in
    record {
      pushed = c.push_positions.ensures.items ∙ ap (λ ps. ps ++ range_with_len run.0 (c.max.result - run.0)) c.loop-run.invariant.pushed ∙ ap (λ n. flat_map run_positions (take i runs) ++ range_with_len run.0 n) count ∙ sym (runs_more run_positions runs i (0, 0) c.loop-run-test.true);
      capacity = c.push_positions.ensures.capacity ∙ c.loop-run.invariant.capacity;
    }

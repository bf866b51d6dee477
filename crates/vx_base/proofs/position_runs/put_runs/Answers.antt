use Rattle.std.proofs.Common.{◌-◌, ◌++◌, take, get_or, length, sym, ap, ◌∙◌, arith}
use Rattle.std.specs.List.{flat_map, range_with_len}
use Rattle.std.proofs.lemmas.List.{length-append}
use Rattle.std.proofs.lemmas.List.Folds.{length-flat_map-take}
use Rattle.std.proofs.lemmas.List.FromFn.{length-range_with_len}
use Rattle.vx_base.specs.Selections.{run_positions}
use Rattle.vx_base.proofs.Runs.{runs_more}
use Rattle.vx_base.proofs.position_runs.put_runs.Goals as goal

pub put_positions-requires-clause-room : goal.put_positions-requires-clause-room
put_positions-requires-clause-room c =
    let runs = c.args.runs.now in
    let run = get_or runs c.loop-run.run-index (0, 0) in
    let more = length-flat_map-take run_positions runs c.loop-run.run-index (0, 0) c.loop-run-test.true in
    omega (arith, more, length-range_with_len run.0 (run.1 - run.0), c.saturating_sub-count.ensures, c.loop-run.invariant.place, c.loop-run.invariant.len, c.requires)

pub overflow_add-at : goal.overflow_add-at
overflow_add-at c =
    let runs = c.args.runs.now in
    let run = get_or runs c.loop-run.run-index (0, 0) in
    let more = length-flat_map-take run_positions runs c.loop-run.run-index (0, 0) c.loop-run-test.true in
    omega (arith, more, length-range_with_len run.0 (run.1 - run.0), c.saturating_sub-count.ensures, c.loop-run.invariant.place, c.loop-run.invariant.len, c.requires, c.loop-run.auto.out)

pub loop-run-preserved : goal.loop-run-preserved
loop-run-preserved c =
    let runs = c.args.runs.now in
    let i = c.loop-run.run-index in
    let run = get_or runs i (0, 0) in
    let all = runs_more run_positions runs i (0, 0) c.loop-run-test.true in
    record {
      len = c.put_positions.ensures.len ∙ c.loop-run.invariant.len;
      place = omega (arith, ap length all, length-append (flat_map run_positions (take i runs)) (run_positions run), length-range_with_len run.0 (run.1 - run.0), c.saturating_sub-count.ensures, c.loop-run.invariant.place);
      put = c.put_positions.ensures.put ∙ ap (λ ps. ps ++ range_with_len run.0 c.saturating_sub-count.result) c.loop-run.invariant.put ∙ ap (λ n. flat_map run_positions (take i runs) ++ range_with_len run.0 n) c.saturating_sub-count.ensures ∙ sym all;
    }

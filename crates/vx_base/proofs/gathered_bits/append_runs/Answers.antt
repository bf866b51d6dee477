use Rattle.std.proofs.Common.{◌<◌, ◌++◌, take, get_or, length, map, sym, ap, ◌∙◌, arith}
use Rattle.std.specs.List.{flat_map}
use Rattle.std.proofs.lemmas.List.{map-append, length-map}
use Rattle.std.proofs.lemmas.List.Folds.{length-flat_map-take}
use Rattle.vx_base.specs.Selections.{run_positions}
use Rattle.vx_base.specs.Bits.{bool_at}
use Rattle.vx_base.proofs.Runs.{All-run, runs_more}
use Rattle.vx_base.proofs.gathered_bits.append_runs.Goals as goal

pub append_run-requires-clause-within : goal.append_run-requires-clause-within
append_run-requires-clause-within c =
    All-run (λ k. k < length c.args.bits.now.bits) run_positions c.args.runs.now c.loop-run.run-index (0, 0) c.loop-run-test.true c.requires.within

pub append_run-requires-clause-countable : goal.append_run-requires-clause-countable
append_run-requires-clause-countable c =
    let runs = c.args.runs.now in
    let i = c.loop-run.run-index in
    let long = ap length c.loop-run.invariant ∙ length-map (flat_map run_positions (take i runs)) (bool_at c.args.bits.now.bits) in
    let more = length-flat_map-take run_positions runs i (0, 0) c.loop-run-test.true in
    omega (arith, long, more, c.requires.len)

pub loop-run-preserved : goal.loop-run-preserved
loop-run-preserved c =
    let runs = c.args.runs.now in
    let i = c.loop-run.run-index in
    let f = bool_at c.args.bits.now.bits in
    c.in_ok-append_run.ensures ∙ ap (λ bs. bs ++ map f (run_positions (get_or runs i (0, 0)))) c.loop-run.invariant
    ∙ sym (ap (map f) (runs_more run_positions runs i (0, 0) c.loop-run-test.true) ∙ map-append f (flat_map run_positions (take i runs)) (run_positions (get_or runs i (0, 0))))

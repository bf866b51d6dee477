use Rattle.std.proofs.Common.{◌<◌, ◌++◌, take, get_or, length, map, sym, ap, ◌∙◌}
use Rattle.std.specs.List.{flat_map}
use Rattle.std.proofs.lemmas.List.{map-append}
use Rattle.vx_base.specs.Selections.{run_positions, item_of_position}
use Rattle.vx_base.proofs.Runs.{All-run, runs_more}
use Rattle.vx_base.proofs.gathered_items.ItemsGather.of_runs.Goals as goal

pub append_items-requires : goal.append_items-requires
append_items-requires g c = All-run (λ k. k < length c.args.self.items.now) run_positions c.args.runs.now c.loop-run.run-index (0, 0) c.loop-run-test.true c.requires.within

pub loop-run-preserved : goal.loop-run-preserved
loop-run-preserved g c = λ d.
    let runs = c.args.runs.now in
    let i = c.loop-run.run-index in
    let f = item_of_position d c.args.self.items.now in
    c.in_ok-append_items.ensures d ∙ ap (λ xs. xs ++ map f (run_positions (get_or runs i (0, 0)))) (c.loop-run.invariant d)
    ∙ sym (ap (map f) (runs_more run_positions runs i (0, 0) c.loop-run-test.true) ∙ map-append f (flat_map run_positions (take i runs)) (run_positions (get_or runs i (0, 0))))

use Rattle.std.proofs.Common.{[], ◌∷◌, ◌++◌, ◌+◌, ◌*◌, ◌<◌, ◌^◌, take, get_or, sym, ap, ◌∙◌}
use Rattle.std.specs.List.{flat_map}
use Rattle.std.proofs.lemmas.List.{append-nil}
use Rattle.std.proofs.lemmas.Grind.{flat_map-append}
use Rattle.vx_base.specs.Selections.{run_positions, list_positions}
use Rattle.vx_base.proofs.Runs.{All-run, runs_more}
use Rattle.vx_base.proofs.selection.runs_of_runs.Goals as goal

pub list_run-requires : goal.list_run-requires
list_run-requires c = All-run (λ k. k * c.args.size + c.args.size < 2 ^ 64) run_positions c.args.lists.now c.loop-list.list-index (0, 0) c.loop-list-test.true c.requires

pub loop-list-preserved : goal.loop-list-preserved
loop-list-preserved c =
    let lists = c.args.lists.now in
    let i = c.loop-list.list-index in
    let f = list_positions c.args.size in
    let list = get_or lists i (0, 0) in
    ap (flat_map run_positions) c.in_ok-push.ensures.items ∙ flat_map-append run_positions c.loop-list.runs.items (c.list_run.result ∷ [])
    ∙ ap (λ ks. flat_map run_positions c.loop-list.runs.items ++ ks) (append-nil (run_positions c.list_run.result) ∙ c.list_run.ensures)
    ∙ ap (λ ks. ks ++ flat_map f (run_positions list)) c.loop-list.invariant
    ∙ sym (ap (flat_map f) (runs_more run_positions lists i (0, 0) c.loop-list-test.true) ∙ flat_map-append f (flat_map run_positions (take i lists)) (run_positions list))

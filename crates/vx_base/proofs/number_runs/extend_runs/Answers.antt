use Rattle.std.proofs.Common.{◌+◌, ◌-◌, ◌*◌, ◌≤◌, ◌++◌, ◌∙◌, length, get_or, take, drop, sym, ap, arith}
use Rattle.std.specs.List.{flat_map}
use Rattle.std.proofs.lemmas.Grind.{flat_map-append}
use Rattle.std.proofs.lemmas.List.{append_assoc}
use Rattle.vx_base.specs.Selections.{run_positions, bytes_of_position, held}
use Rattle.vx_base.proofs.RunBlocks.{chunks_of_run, run_within}
use Rattle.vx_base.proofs.Runs.{All-run, runs_more}
use Rattle.vx_base.proofs.number_runs.extend_runs.Goals as goal

pub extend_run-requires : goal.extend_run-requires
extend_run-requires g c =
    let w = g.row.WIDTH in
    let bs = c.args.bytes.now in
    let all = All-run (λ k. k * w + w ≤ length bs) run_positions c.args.runs.now c.loop-run.run-index (0, 0) c.loop-run-test.true c.requires.within in
    (omega (arith, c.requires.width), (c.requires.width, (c.loop-run.invariant.0, (c.loop-run.invariant.1.0, run_within w bs _ _ c.requires.some c.as_chunks.ensures.front_len all))))

pub loop-run-preserved : goal.loop-run-preserved
loop-run-preserved g c =
    let w = g.row.WIDTH in
    let bs = c.args.bytes.now in
    let runs = c.args.runs.now in
    let i = c.loop-run.run-index in
    let run = get_or runs i (0, 0) in
    let old = c.args.picked.now.items in
    let f = bytes_of_position w bs in
    let all = All-run (λ k. k * w + w ≤ length bs) run_positions runs i (0, 0) c.loop-run-test.true c.requires.within in
    let numbers = chunks_of_run w bs _ (run.1 - run.0) run.0 c.requires.some c.as_chunks.ensures.front c.as_chunks.ensures.front_len all in
    let more = flat_map f (flat_map run_positions (take i runs)) in (
      c.extend_run.ensures.room ∙ c.loop-run.invariant.0,
      (
        c.in_ok-filled.ensures.filled,
        c.in_ok-filled.ensures.numbers ∙ ap (λ bytes. held bytes (take (run.1 - run.0) (drop run.0 c.as_chunks.result.0.now))) c.loop-run.invariant.1.1
            ∙ ap (λ bytes. (old ++ more) ++ bytes) numbers ∙ append_assoc old more (flat_map f (run_positions run))
            ∙ ap (λ bytes. old ++ bytes) (sym (ap (flat_map f) (runs_more run_positions runs i (0, 0) c.loop-run-test.true) ∙ flat_map-append f (flat_map run_positions (take i runs)) (run_positions run))),
      ),
    )

use Rattle.std.proofs.Common.{◌<◌, ◌++◌, take, get_or, length, map, refl, sym, ap, ◌∙◌, arith}
use Rattle.std.specs.List.{flat_map}
use Rattle.std.proofs.lemmas.List.{map-append, length-append}
use Rattle.std.proofs.lemmas.List.Folds.{length-flat_map-take}
use Rattle.vx_base.specs.Bits.{bool_at}
use Rattle.vx_base.specs.Selections.{run_positions}
use Rattle.vx_base.proofs.PackedBits.{unpacked_none}
use Rattle.vx_base.proofs.Runs.{All-run, runs_more}
use Rattle.vx_base.proofs.gathered_bits.put_runs.Goals as goal

pub loop-run-init : goal.loop-run-init
loop-run-init c = (refl, unpacked_none c.args.out.now 0)

pub put_run-at-requires-clause-within : goal.put_run-at-requires-clause-within
put_run-at-requires-clause-within c =
    All-run (λ k. k < length c.args.bits.now.bits) run_positions c.args.runs.now c.loop-run.run-index (0, 0) c.loop-run-test.true c.requires.within

pub put_run-at-requires-clause-room : goal.put_run-at-requires-clause-room
put_run-at-requires-clause-room c =
    let more = length-flat_map-take run_positions c.args.runs.now c.loop-run.run-index (0, 0) c.loop-run-test.true in
    omega (arith, more, c.loop-run.invariant.0, c.requires.room)

pub put_run-at-requires-clause-fits : goal.put_run-at-requires-clause-fits
put_run-at-requires-clause-fits c =
    let more = length-flat_map-take run_positions c.args.runs.now c.loop-run.run-index (0, 0) c.loop-run-test.true in
    omega (arith, more, c.loop-run.invariant.0, c.requires.fits)

pub loop-run-preserved : goal.loop-run-preserved
loop-run-preserved c =
    let runs = c.args.runs.now in
    let i = c.loop-run.run-index in
    let f = bool_at c.args.bits.now.bits in
    let run = get_or runs i (0, 0) in
    let all = runs_more run_positions runs i (0, 0) c.loop-run-test.true in (
      omega (arith, c.put_run-at.ensures.place, c.loop-run.invariant.0, ap length all, length-append (flat_map run_positions (take i runs)) (run_positions run)),
      c.put_run-at.ensures.bits ∙ ap (λ bs. bs ++ map f (run_positions run)) c.loop-run.invariant.1
          ∙ sym (ap (map f) all ∙ map-append f (flat_map run_positions (take i runs)) (run_positions run)),
    )

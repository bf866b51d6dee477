use Rattle.std.proofs.Common.{length, ap, ◌∙◌, arith}
use Rattle.std.specs.List.{flat_map}
use Rattle.std.proofs.lemmas.List.{take_all}
use Rattle.vx_base.specs.Selections.{run_positions}
use Rattle.vx_base.proofs.MaskRuns.{rows_within, rows_more}
use Rattle.vx_base.proofs.mask_runs.rows_in.Goals as goal

pub overflow_sub-rows : goal.overflow_sub-rows
overflow_sub-rows c = let h = c.requires.filled c.loop-run.run-index (0, 0) c.loop-run-test.true in omega arith

pub overflow_add-rows : goal.overflow_add-rows
overflow_add-rows c = omega (arith, rows_within c.args.runs.now c.loop-run.run-index (0, 0) c.loop-run-test.true)

pub loop-run-preserved : goal.loop-run-preserved
loop-run-preserved c = omega (arith, rows_more c.args.runs.now c.loop-run.run-index (0, 0) c.loop-run-test.true)

pub returns : goal.returns
returns c = c.loop-run.invariant ∙ ap (λ rs. length (flat_map run_positions rs)) (take_all c.loop-run.run-index c.args.runs.now (omega arith))

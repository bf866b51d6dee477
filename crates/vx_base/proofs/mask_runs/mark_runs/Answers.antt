use Rattle.vx_base.proofs.MaskRuns.{bits_more}
use Rattle.vx_base.proofs.mask_runs.mark_runs.Goals as goal

pub loop-run-preserved : goal.loop-run-preserved
loop-run-preserved c =
    bits_more c.args.out.now c.loop-run.out c.fill_bits.new.bytes c.args.runs.now c.loop-run.run-index (0, 0) c.loop-run-test.true c.loop-run.invariant c.fill_bits.ensures.filled

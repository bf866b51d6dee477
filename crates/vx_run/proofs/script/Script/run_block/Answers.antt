use Rattle.vx_run.proofs.Streams.{grows-then}
use Rattle.vx_run.proofs.script.Script.run_block.Goals as goal

pub returns-in_err-run_line : goal.returns-in_err-run_line
returns-in_err-run_line g c = grows-then _ _ _ c.loop-end.invariant c.run_line.ensures

pub loop-end-preserved : goal.loop-end-preserved
loop-end-preserved g c = grows-then _ _ _ c.loop-end.invariant c.run_line.ensures

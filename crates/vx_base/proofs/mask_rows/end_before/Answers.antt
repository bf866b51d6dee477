use Rattle.std.proofs.Common.{arith}
use Rattle.vx_base.proofs.MaskStretches.{before_last, last_before}
use Rattle.vx_base.proofs.mask_rows.end_before.Goals as goal

pub returns-clause-before : goal.returns-clause-before
returns-clause-before c = before_last _ c.args.run _ c.args.runs.now (0, 0) c.requires.runs (omega arith) c.requires.run (omega arith)

pub returns-clause-least : goal.returns-clause-least
returns-clause-least c = λ i all. last_before c.args.run i c.args.runs.now (0, 0) (omega arith) c.requires.run all

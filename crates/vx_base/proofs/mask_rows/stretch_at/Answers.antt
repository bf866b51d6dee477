use Rattle.std.proofs.Common.{◌<◌, length, refl, arith}
use Rattle.vx_base.proofs.MaskStretches.{IsStretch-end, IsStretch-gap, IsStretch-run}
use Rattle.vx_base.proofs.mask_rows.stretch_at.Goals as goal

pub returns-then-run-runs-clause-stretch : goal.returns-then-run-runs-clause-stretch
returns-then-run-runs-clause-stretch c =
    IsStretch-end c.args.runs.now c.first_past-run.result c.end_before-start.result c.args.len c.if-run-runs.true c.end_before-start.ensures.before

pub returns-then-i-first-clause-stretch : goal.returns-then-i-first-clause-stretch
returns-then-i-first-clause-stretch c =
    let bound = c.first_past-run.ensures.bound in
    let l : c.first_past-run.result < length c.args.runs.now = omega arith in
    IsStretch-gap c.args.len c.args.runs.now c.first_past-run.result c.end_before-start.result _ (0, 0) c.requires.runs l c.end_before-start.ensures.before refl

pub returns-clause-stretch : goal.returns-clause-stretch
returns-clause-stretch c =
    let bound = c.first_past-run.ensures.bound in
    let l : c.first_past-run.result < length c.args.runs.now = omega arith in
    IsStretch-run c.args.runs.now c.first_past-run.result _ _ (0, 0) l refl refl

use Rattle.std.proofs.Common.{◌∙◌, ap}
use Rattle.vx_run.specs.Steps.{arrays_at}
use Rattle.vx_run.proofs.StepResults.{step-concat}
use Rattle.vx_run.proofs.run_steps.concatenated.Goals as goal

pub returns-clause-ok : goal.returns-clause-ok
returns-clause-ok c =
    let made = c.in_ok-concat.ensures in
    step-concat c.args.arrays.now c.args.positions.now c.deref-2.result.now c.in_ok-concat.field-0
    (c.deref-2.ensures.value ∙ c.in_ok-found.ensures.found ∙ ap (arrays_at c.args.arrays.now) c.deref.ensures.value)
    made.refuses (record { same_rows = made.rows; kind = made.kind; plain = made.plain; extent = made.extent }) made.state made.flag made.numbers

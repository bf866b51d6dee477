use Rattle.vx_run.proofs.StepResults.{step-narrow}
use Rattle.vx_run.proofs.run_steps.narrowed.Goals as goal

pub returns-clause-ok : goal.returns-clause-ok
returns-clause-ok c =
    step-narrow c.args.arrays.now c.args.array c.in_ok-numbers.numbers c.in_ok-narrow.field-0 c.into_array.result
    c.in_ok-numbers.ensures.found c.in_ok-numbers.ensures.layout c.in_ok-narrow.ensures c.into_array.ensures.value c.into_array.ensures.layout

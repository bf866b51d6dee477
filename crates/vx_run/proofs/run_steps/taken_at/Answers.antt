use Rattle.vx_run.proofs.StepResults.{step-take}
use Rattle.vx_run.proofs.run_steps.taken_at.Goals as goal

pub returns-clause-ok : goal.returns-clause-ok
returns-clause-ok c =
    let made = c.in_ok-take.ensures in
    step-take c.args.arrays.now c.args.array c.args.indices c.in_ok-array.array.now c.in_ok-indices.indices.now c.in_ok-take.field-0
    c.in_ok-array.ensures.found c.in_ok-indices.ensures.found made.kind made.rows (record {
      shape = made.shape;
      one_value = made.one_value;
      extent = made.extent;
      needs = made.needs;
    })

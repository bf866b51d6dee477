use Rattle.std.proofs.Common.{length}
use Rattle.std.proofs.lemmas.Result.{err_from_is_err_and}
use Rattle.vx_run.proofs.StepPositions.{positions-refused}
use Rattle.vx_run.proofs.run_steps.arrays_at.Goals as goal

pub returns-in_err-array_at-clause-refuses : goal.returns-in_err-array_at-clause-refuses
returns-in_err-array_at-clause-refuses c =
    let p = err_from_is_err_and c.from_residual-in_err-array_at.result c.from_residual-in_err-array_at.ensures.1 in
    rw (p.1, p.2) (positions-refused (length c.args.arrays.now) c.args.positions.now c.loop-position.position-index c.in_err-array_at.field-0.0
    c.loop-position-test.true c.loop-position.invariant.1 c.in_err-array_at.ensures.tests)

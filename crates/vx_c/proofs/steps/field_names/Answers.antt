use Rattle.std.proofs.lemmas.Result.{err_from_is_err_and}
use Rattle.vx_c.proofs.Meant.{names-refused_or}
use Rattle.vx_c.proofs.steps.field_names.Goals as goal

pub returns-in_err-field_name-clause-refuses : goal.returns-in_err-field_name-clause-refuses
returns-in_err-field_name-clause-refuses c =
    let p = err_from_is_err_and c.from_residual-in_err-field_name.result c.from_residual-in_err-field_name.ensures.1 in
    rw (p.1, p.2) (names-refused_or c.args.buffers.now c.loop-i.i c.in_err-field_name.field-0.0 c.loop-i.invariant.1 c.loop-i-test.true
    c.in_err-field_name.ensures.refuses)

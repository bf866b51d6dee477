use Rattle.std.proofs.lemmas.Result.{err_from_is_err_and}
use Rattle.vx_c.proofs.Names.{names-refused}
use Rattle.vx_c.proofs.layouts.names_of.Goals as goal

pub returns-in_err-name_of-clause-refuses : goal.returns-in_err-name_of-clause-refuses
returns-in_err-name_of-clause-refuses c =
    let p = err_from_is_err_and c.from_residual-in_err-name_of.result c.from_residual-in_err-name_of.ensures.1 in
    rw (p.1, p.2) (names-refused c.args.buffers.now c.loop-i.i c.in_err-name_of.field-0.0 c.loop-i.invariant.1 c.loop-i-test.true
    c.in_err-name_of.ensures.tests)

use Rattle.std.proofs.lemmas.Result.{err_from_is_err_and}
use Rattle.vx_base.specs.Refusals.{refusal_of}
use Rattle.vx_tree.proofs.Named.{one_position_faultless, one_position_fault}
use Rattle.vx_tree.proofs.array.ArrayRef.one_position.Goals as goal

pub returns-in_err-position-clause-tests : goal.returns-in_err-position-clause-tests
returns-in_err-position-clause-tests c =
    let p = err_from_is_err_and c.from_residual.result c.from_residual.ensures.1 in
    let e = c.in_err-position.ensures.tests in
    rw (p.1, p.2) (e.0, one_position_fault c.args.self.now c.args.len (refusal_of c.in_err-position.field-0.0) c.requires.repeated e.1 e.0)

pub returns-clause-tests : goal.returns-clause-tests
returns-clause-tests c = one_position_faultless c.args.self.now c.args.len c.requires.repeated c.in_ok-position.ensures.tests

use Rattle.std.proofs.Common.{arith}
use Rattle.std.proofs.lemmas.Result.{err_from_is_err_and}
use Rattle.vx_base.specs.Refusals.{refusal_of}
use Rattle.vx_tree.proofs.Positions.{AreRead-fault}
use Rattle.std.proofs.lemmas.Grind.{common_steps}
use Rattle.vx_tree.proofs.array.ArrayRef.fill_each.Goals as goal

pub returns-in_err-out-clause-tests : goal.returns-in_err-out-clause-tests
returns-in_err-out-clause-tests c =
    let p = err_from_is_err_and c.from_residual.result c.from_residual.ensures.1 in
    let e = c.in_err-out.ensures.tests in
    rw (p.1, p.2) (e.0, AreRead-fault c.args.self.now c.args.len c.loop-row.row c.loop-row.out (refusal_of c.in_err-out.field-0.0) c.loop-row.invariant e.1 e.0 (omega (arith, c.loop-row.invariant.long)))

pub loop-row-preserved : goal.loop-row-preserved
loop-row-preserved c = grind (arith, common_steps)

pub returns-clause-ok : goal.returns-clause-ok
returns-clause-ok c = grind (arith, common_steps)

pub returns-clause-tests : goal.returns-clause-tests
returns-clause-tests c = grind (arith, common_steps)

use Rattle.std.proofs.Common.{arith}
use Rattle.std.proofs.lemmas.Result.{err_from_is_err_and}
use Rattle.vx_base.specs.Refusals.{refusal_of}
use Rattle.vx_tree.specs.Operations.{masked_numbers}
use Rattle.vx_tree.proofs.Positions.{AreRead-fault}
use Rattle.vx_tree.proofs.indices.fill_masked.Goals as goal

pub returns-in_err-out-clause-tests : goal.returns-in_err-out-clause-tests
returns-in_err-out-clause-tests g c =
    let p = err_from_is_err_and c.from_residual.result c.from_residual.ensures.1 in
    let e = rw (c.PTYPE.ensures, c.loop-row.invariant.same) at c.in_err-out.ensures.tests in
    rw (p.1, p.2) (e.0, AreRead-fault (masked_numbers g.T.NativePType.PTYPE c.args.bytes.now c.args.mask.now) c.args.len c.loop-row.row c.loop-row.out (refusal_of c.in_err-out.field-0.0) c.loop-row.invariant.read e.1 e.0 (omega (arith, c.loop-row.invariant.read.long)))

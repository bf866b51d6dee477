use Rattle.std.proofs.lemmas.Result.{err_from_is_err_and}
use Rattle.vx_base.specs.Refusals.{refusal_of}
use Rattle.vx_tree.specs.Tree.{primitive, non_nullable}
use Rattle.vx_tree.proofs.Positions.{fault_found}
use Rattle.vx_tree.proofs.indices.checks.check_each.Goals as goal

pub returns-in_err-number_position : goal.returns-in_err-number_position
returns-in_err-number_position g c =
    let t = primitive g.T.NativePType.PTYPE c.args.bytes.now non_nullable in
    let p = err_from_is_err_and c.from_residual.result c.from_residual.ensures.1 in
    let e = rw c.PTYPE-in-loop-row.ensures at c.in_err-number_position.ensures.tests in
    let inside = rw (c.number_count-row-end.ensures, c.PTYPE.ensures) at c.loop-row-test.true in
    rw (p.1, p.2) (e.0, fault_found t c.args.len c.loop-row.row (refusal_of c.in_err-number_position.field-0.0) c.loop-row.invariant e.1 e.0 inside)

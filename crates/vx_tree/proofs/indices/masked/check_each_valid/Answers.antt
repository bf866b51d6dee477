use Rattle.std.proofs.Common.{◌<◌, length, arith}
use Rattle.std.proofs.lemmas.Result.{err_from_is_err_and}
use Rattle.vx_base.specs.Integers.{numbers}
use Rattle.vx_base.specs.Refusals.{refusal_of}
use Rattle.vx_tree.specs.Operations.{masked_numbers}
use Rattle.vx_tree.proofs.Positions.{fault_found}
use Rattle.vx_tree.proofs.indices.masked.check_each_valid.Goals as goal

pub returns-in_err-check_row : goal.returns-in_err-check_row
returns-in_err-check_row g c =
    let t = g.T.NativePType.PTYPE in
    let p = err_from_is_err_and c.from_residual.result c.from_residual.ensures.1 in
    let e = rw c.PTYPE.ensures at c.in_err-check_row.ensures in
    let inside : c.loop-row.row < length (numbers t c.args.bytes.now) = omega (arith, c.requires) in
    rw (p.1, p.2) (e.0, fault_found (masked_numbers t c.args.bytes.now c.args.valid.now.bits) c.args.len c.loop-row.row (refusal_of c.in_err-check_row.field-0.0) c.loop-row.invariant e.1 e.0 inside)

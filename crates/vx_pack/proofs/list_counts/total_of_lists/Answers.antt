use Rattle.std.proofs.Common.{arith}
use Rattle.std.proofs.lemmas.Result.{err_from_is_err_and}
use Rattle.vx_base.specs.DTypes.{dtype_meaning}
use Rattle.vx_pack.proofs.ListItems.{pieces_items_within}
use Rattle.vx_pack.proofs.list_counts.total_of_lists.Goals as goal

pub returns-in_err-total : goal.returns-in_err-total
returns-in_err-total c =
    let k = dtype_meaning c.args.dtype.now in
    let within = pieces_items_within k c.args.pieces.now c.loop-piece.piece-index c.piece-item.result c.loop-piece-test.true c.piece-item.is in
    let p = err_from_is_err_and c.from_residual.result c.from_residual.ensures.1 in
    rw (p.1, p.2) (c.in_err-total.ensures.0, omega (arith, within, c.in_err-total.ensures.1, c.loop-piece.invariant))

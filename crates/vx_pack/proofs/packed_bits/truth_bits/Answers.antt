use Rattle.vx_base.specs.DTypes.{dtype_meaning}
use Rattle.vx_base.specs.Rows.{truth_of}
use Rattle.vx_pack.proofs.PiecesRead.{piece_pushed, rows_fit}
use Rattle.vx_pack.proofs.packed_bits.truth_bits.Goals as goal

pub push_truths-requires-clause-fits : goal.push_truths-requires-clause-fits
push_truths-requires-clause-fits c =
    let k = dtype_meaning c.args.dtype.now in
    rows_fit truth_of k c.args.pieces.now c.args.len c.loop-piece.piece-index c.piece-item.result c.loop-piece.bits
    c.requires c.loop-piece-test.true c.piece-item.is c.loop-piece.invariant

pub loop-piece-preserved : goal.loop-piece-preserved
loop-piece-preserved c =
    let k = dtype_meaning c.args.dtype.now in
    piece_pushed truth_of k c.args.pieces.now c.loop-piece.piece-index c.piece-item.result c.loop-piece.bits
    c.push_truths.new.bits c.loop-piece-test.true c.piece-item.is c.loop-piece.invariant c.in_ok-push_truths.ensures

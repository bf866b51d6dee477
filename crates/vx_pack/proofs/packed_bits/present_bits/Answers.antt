use Rattle.vx_base.specs.DTypes.{dtype_meaning}
use Rattle.vx_base.specs.Rows.{is_present}
use Rattle.vx_pack.proofs.PiecesRead.{piece_pushed, rows_fit}
use Rattle.vx_pack.proofs.packed_bits.present_bits.Goals as goal

pub push_present-requires-clause-fits : goal.push_present-requires-clause-fits
push_present-requires-clause-fits c =
    let k = dtype_meaning c.args.dtype.now in
    rows_fit is_present k c.args.pieces.now c.args.len c.loop-piece.piece-index c.piece-item.result c.loop-piece.bits
    c.requires.pieces c.loop-piece-test.true c.piece-item.is c.loop-piece.invariant

pub loop-piece-preserved : goal.loop-piece-preserved
loop-piece-preserved c =
    let k = dtype_meaning c.args.dtype.now in
    piece_pushed is_present k c.args.pieces.now c.loop-piece.piece-index c.piece-item.result c.loop-piece.bits
    c.push_present.new.bits c.loop-piece-test.true c.piece-item.is c.loop-piece.invariant c.in_ok-push_present.ensures

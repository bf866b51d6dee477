use Rattle.std.proofs.Common.{◌<◌, length, sym, arith}
use Rattle.vx_base.specs.DTypes.{dtype_meaning}
use Rattle.vx_pack.proofs.PieceRows.{length-pieces_rows}
use Rattle.vx_pack.proofs.PresentRows.{valid_where_all, valid_where_none}
use Rattle.vx_pack.specs.Pieces.{pieces_rows}
use Rattle.vx_pack.proofs.packed_bits.nullable_validity.Goals as goal

pub returns-then-have_presence : goal.returns-then-have_presence
returns-then-have_presence c =
    sym (valid_where_all (pieces_rows (dtype_meaning c.args.dtype.now) c.args.pieces.now) (c.have_presence.ensures c.if-have_presence.true))

pub returns-then-have_presence-2 : goal.returns-then-have_presence-2
returns-then-have_presence-2 c =
    let k = dtype_meaning c.args.dtype.now in
    let rows = pieces_rows k c.args.pieces.now in
    let some : 0 < length rows = omega (arith, length-pieces_rows k c.args.pieces.now, c.requires.pieces.count) in
    sym (valid_where_none rows some (c.have_presence-then-len-gt0.ensures c.if-have_presence-2.true))

use Rattle.std.proofs.Common.{◌<◌, arith}
use Rattle.vx_base.specs.DTypes.{dtype_meaning}
use Rattle.vx_base.specs.Rows.{truth_of}
use Rattle.vx_pack.proofs.PiecesRead.{row_fits, row_pushed}
use Rattle.vx_pack.specs.Pieces.{piece_len}
use Rattle.vx_pack.proofs.packed_bits.push_each_truth.Goals as goal

pub push_bit-requires : goal.push_bit-requires
push_bit-requires c =
    let k = dtype_meaning c.args.dtype.now in
    let inside : c.loop-i.i < piece_len c.args.piece = omega (arith, c.len-i-end.ensures) in
    row_fits truth_of k c.args.piece c.args.bits.now c.loop-i.bits c.loop-i.i c.requires.fits inside c.loop-i.invariant

pub loop-i-preserved : goal.loop-i-preserved
loop-i-preserved c =
    let k = dtype_meaning c.args.dtype.now in
    row_pushed truth_of k c.args.piece c.args.bits.now c.loop-i.bits c.push_bit.new.bits c.loop-i.i c.truth_or_false.result
    c.loop-i.invariant (c.truth_or_false.ensures k) c.in_ok-push_bit.ensures

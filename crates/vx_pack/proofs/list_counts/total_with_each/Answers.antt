use Rattle.std.proofs.Common.{◌<◌, refl, arith}
use Rattle.vx_base.specs.DTypes.{dtype_meaning}
use Rattle.vx_pack.specs.Pieces.{piece_len}
use Rattle.vx_pack.proofs.ListItems.{list_items_count, list_items_within}
use Rattle.vx_pack.proofs.list_counts.total_with_each.Goals as goal

pub returns-in_default : goal.returns-in_default
returns-in_default c =
    let k = dtype_meaning c.args.dtype.now in
    let inside : c.loop-i.i < piece_len c.args.piece = omega (arith, c.loop-i-test.true, c.len-i-end.ensures) in
    let within = list_items_within k c.args.piece c.loop-i.i inside in
    let size = c.list_len.ensures k c.requires.lists c.requires.piece in
    (refl, omega (arith, within, size, c.in-Some.ensures, c.loop-i.invariant))

pub returns-in_default-2 : goal.returns-in_default-2
returns-in_default-2 c =
    let k = dtype_meaning c.args.dtype.now in
    let inside : c.loop-i.i < piece_len c.args.piece = omega (arith, c.loop-i-test.true, c.len-i-end.ensures) in
    let within = list_items_within k c.args.piece c.loop-i.i inside in
    let size = c.list_len.ensures k c.requires.lists c.requires.piece in
    (refl, omega (arith, within, size, c.in_default.ensures, c.loop-i.invariant, c.ranges.limit.fits))

pub loop-i-preserved : goal.loop-i-preserved
loop-i-preserved c =
    let k = dtype_meaning c.args.dtype.now in
    let size = c.list_len.ensures k c.requires.lists c.requires.piece in
    let more = list_items_count k c.args.piece c.loop-i.i in
    (omega (arith, more, size, c.in-Some.ensures, c.loop-i.invariant), omega (arith, c.if-more-limit.true))

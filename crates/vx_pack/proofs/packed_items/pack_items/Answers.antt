use Rattle.std.proofs.Common.{take, subst, sym, arith}
use Rattle.std.proofs.lemmas.List.{take_all}
use Rattle.vx_base.specs.DTypes.{dtype_meaning}
use Rattle.vx_pack.specs.Gathered.{AreGathered}
use Rattle.vx_pack.specs.ListItems.{list_items}
use Rattle.vx_pack.specs.Pieces.{pieces_rows}
use Rattle.vx_pack.proofs.ListItems.{pieces_items_more, pieces_items_within}
use Rattle.vx_pack.proofs.packed_items.pack_items.Goals as goal

pub push_items-requires-clause-rows : goal.push_items-requires-clause-rows
push_items-requires-clause-rows c =
    let k = dtype_meaning c.args.dtype.now in
    let ps = c.args.pieces.now in
    let i = c.loop-piece.piece-index in
    let within = pieces_items_within k ps i c.piece-item.result c.loop-piece-test.true c.piece-item.is in
    (list_items k (pieces_rows k (take i ps)), c.loop-piece.invariant, omega (arith, within, c.requires.total, c.ranges.total.fits))

pub loop-piece-preserved : goal.loop-piece-preserved
loop-piece-preserved c =
    let k = dtype_meaning c.args.dtype.now in
    let ps = c.args.pieces.now in
    let i = c.loop-piece.piece-index in
    subst (λ xs. AreGathered (dtype_meaning c.args.items.now) xs c.push_items.new.gathered)
    (sym (pieces_items_more k ps i c.piece-item.result c.loop-piece-test.true c.piece-item.is))
    (c.in_ok-push_items.ensures (list_items k (pieces_rows k (take i ps))) c.loop-piece.invariant)

pub finish-requires : goal.finish-requires
finish-requires c =
    let k = dtype_meaning c.args.dtype.now in
    (list_items k (pieces_rows k (take c.loop-piece.piece-index c.args.pieces.now)), c.loop-piece.invariant)

pub returns-clause-ok : goal.returns-clause-ok
returns-clause-ok c =
    let k = dtype_meaning c.args.dtype.now in
    let all = take_all c.loop-piece.piece-index c.args.pieces.now c.loop-piece-test.false in
    c.finish.ensures.ok (list_items k (pieces_rows k c.args.pieces.now))
    (subst (λ ps. AreGathered (dtype_meaning c.args.items.now) (list_items k (pieces_rows k ps)) c.loop-piece.gathered) all c.loop-piece.invariant)

pub returns-clause-err : goal.returns-clause-err
returns-clause-err c =
    let k = dtype_meaning c.args.dtype.now in
    let all = take_all c.loop-piece.piece-index c.args.pieces.now c.loop-piece-test.false in
    c.finish.ensures.err (list_items k (pieces_rows k c.args.pieces.now))
    (subst (λ ps. AreGathered (dtype_meaning c.args.items.now) (list_items k (pieces_rows k ps)) c.loop-piece.gathered) all c.loop-piece.invariant)

use Rattle.std.proofs.Common.{◌++◌, take, subst, sym, arith, refl}
use Rattle.std.proofs.lemmas.List.{take_all}
use Rattle.std.proofs.lemmas.Result.{MatchResult-weaker}
use Rattle.vx_base.specs.DTypes.{dtype_meaning}
use Rattle.vx_pack.specs.ListItems.{AreListCounts, item_counts, item_of}
use Rattle.vx_pack.specs.Pieces.{piece_rows, pieces_rows}
use Rattle.vx_pack.proofs.JoinedLists.{sum-list_sizes}
use Rattle.vx_pack.proofs.ListCounts.{no_list_counts}
use Rattle.vx_pack.proofs.ListItems.{item_counts_more, pieces_items_within}
use Rattle.vx_pack.proofs.list_counts.ListCounts.of_lists.Goals as goal

pub loop-piece-init : goal.loop-piece-init
loop-piece-init c = no_list_counts c.args.total c.args.self _ c.requires.empty refl refl refl refl

pub push_counts-requires-clause-room : goal.push_counts-requires-clause-room
push_counts-requires-clause-room c =
    let k = dtype_meaning c.args.dtype.now in
    let ps = c.args.pieces.now in
    let i = c.loop-piece.piece-index in
    let now = c.loop-piece.invariant in
    let first = pieces_rows k (take i ps) in
    let within = pieces_items_within k ps i c.piece-item.result c.loop-piece-test.true c.piece-item.is in (
      item_counts k first,
      subst (λ m. AreListCounts m (item_counts k first) c.loop-piece.counts) (sym now.all) now,
      omega (arith, now.all, within, sum-list_sizes (item_of k) first, c.requires.total),
    )

pub push_counts-requires-clause-fits : goal.push_counts-requires-clause-fits
push_counts-requires-clause-fits c = omega (arith, c.loop-piece.invariant.all, c.requires.fits)

pub loop-piece-preserved : goal.loop-piece-preserved
loop-piece-preserved c =
    let k = dtype_meaning c.args.dtype.now in
    let ps = c.args.pieces.now in
    let i = c.loop-piece.piece-index in
    let now = c.loop-piece.invariant in
    let first = item_counts k (pieces_rows k (take i ps)) in
    subst (λ xs. AreListCounts c.args.total xs c.push_counts.new.counts)
    (sym (item_counts_more k ps i c.piece-item.result c.loop-piece-test.true c.piece-item.is))
    (subst (λ m. AreListCounts m (first ++ item_counts k (piece_rows k c.piece-item.result)) c.push_counts.new.counts) now.all
    (c.in_ok-push_counts.ensures first (subst (λ m. AreListCounts m first c.loop-piece.counts) (sym now.all) now)))

pub finish-requires : goal.finish-requires
finish-requires c =
    let k = dtype_meaning c.args.dtype.now in
    (c.args.total, item_counts k (pieces_rows k (take c.loop-piece.piece-index c.args.pieces.now)), c.loop-piece.invariant)

pub returns : goal.returns
returns c =
    let k = dtype_meaning c.args.dtype.now in
    let all = take_all c.loop-piece.piece-index c.args.pieces.now c.loop-piece-test.false in
    let done = subst (λ ps. AreListCounts c.args.total (item_counts k (pieces_rows k ps)) c.loop-piece.counts) all c.loop-piece.invariant in
    MatchResult-weaker c.finish.result c.finish.ensures
    (λ made told. told c.args.total (item_counts k (pieces_rows k c.args.pieces.now)) done) (λ e m. m)

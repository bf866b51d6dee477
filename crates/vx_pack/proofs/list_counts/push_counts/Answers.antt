use Rattle.std.proofs.Common.{◌++◌, ap, subst, arith, sum}
use Rattle.std.proofs.lemmas.Result.{MatchResult-weaker}
use Rattle.vx_base.specs.DTypes.{dtype_meaning}
use Rattle.vx_pack.specs.ListItems.{AreListCounts, item_of}
use Rattle.vx_pack.specs.Pieces.{piece_rows}
use Rattle.vx_pack.proofs.JoinedLists.{sum-list_sizes}
use Rattle.vx_pack.proofs.ListItems.{items_of_lists}
use Rattle.vx_pack.proofs.list_counts.push_counts.Goals as goal

pub push_stored_counts-requires-clause-sizes : goal.push_stored_counts-requires-clause-sizes
push_stored_counts-requires-clause-sizes c =
    let k = dtype_meaning c.args.dtype.now in
    (c.in-Some.ensures.lists (item_of k) k (items_of_lists k c.requires.lists) c.requires.piece).lists.sizes

pub push_stored_counts-requires-clause-room : goal.push_stored_counts-requires-clause-room
push_stored_counts-requires-clause-room c =
    let k = dtype_meaning c.args.dtype.now in
    let stored = c.in-Some.ensures.lists (item_of k) k (items_of_lists k c.requires.lists) c.requires.piece in (
      c.requires.room.0,
      c.requires.room.1,
      omega (arith, c.requires.room.2, ap sum stored.sizes, sum-list_sizes (item_of k) (piece_rows k c.args.piece)),
    )

pub returns-in-Some : goal.returns-in-Some
returns-in-Some c =
    let k = dtype_meaning c.args.dtype.now in
    let stored = c.in-Some.ensures.lists (item_of k) k (items_of_lists k c.requires.lists) c.requires.piece in
    MatchResult-weaker c.push_stored_counts.result c.push_stored_counts.ensures
    (λ u told ns h.
    subst (λ xs. AreListCounts c.args.counts.now.total (ns ++ xs) c.push_stored_counts.new.counts) stored.sizes (told ns h))
    (λ e m. m)

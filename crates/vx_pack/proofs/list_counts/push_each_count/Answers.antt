use Rattle.std.proofs.Common.{◌≡◌, ◌++◌, ◌+◌, ◌<◌, ◌≤◌, map, subst, sym, arith}
use Rattle.std.specs.List.{range_with_len}
use Rattle.std.proofs.lemmas.List.{append-nil}
use Rattle.vx_base.specs.DTypes.{dtype_meaning}
use Rattle.vx_pack.specs.ListItems.{AreListCounts, item_counts}
use Rattle.vx_pack.specs.Pieces.{piece_len, piece_row}
use Rattle.vx_pack.proofs.ListCounts.{list_count_room, list_counts_step}
use Rattle.vx_pack.proofs.list_counts.push_each_count.Goals as goal

pub loop-i-init : goal.loop-i-init
loop-i-init c = λ ns h. subst (λ xs. AreListCounts c.args.counts.now.total xs c.args.counts.now) (sym (append-nil ns)) h

pub push-requires-clause-room : goal.push-requires-clause-room
push-requires-clause-room c =
    let k = dtype_meaning c.args.dtype.now in
    let now = c.loop-i.invariant c.requires.room.0 c.requires.room.1 in
    let inside : c.loop-i.i < piece_len c.args.piece = omega (arith, c.loop-i-test.true, c.len-i-end.ensures) in
    subst (λ m. c.loop-i.counts.next + c.list_len.result ≤ m) (sym now.all)
    (list_count_room k c.args.piece c.loop-i.i c.list_len.result c.args.counts.now.total c.loop-i.counts.next c.requires.room.0 inside
    (c.list_len.ensures k c.requires.lists c.requires.piece) c.requires.room.2 now.next)

pub push-requires-clause-fits : goal.push-requires-clause-fits
push-requires-clause-fits c =
    let now = c.loop-i.invariant c.requires.room.0 c.requires.room.1 in
    omega (arith, now.all, c.requires.fits)

pub loop-i-preserved : goal.loop-i-preserved
loop-i-preserved c = λ ns h.
    let k = dtype_meaning c.args.dtype.now in
    let total = c.args.counts.now.total in
    subst (λ xs. AreListCounts total xs c.push.new.self)
    (list_counts_step k c.args.piece c.loop-i.i c.list_len.result ns (c.list_len.ensures k c.requires.lists c.requires.piece))
    (c.in_ok-push.ensures total (ns ++ item_counts k (map (piece_row k c.args.piece) (range_with_len 0 c.loop-i.i))) (c.loop-i.invariant ns h))

pub returns : goal.returns
returns c = λ ns h.
    let k = dtype_meaning c.args.dtype.now in
    let all : c.loop-i.i ≡ piece_len c.args.piece = omega (arith, c.loop-i-test.false, c.loop-i.auto.i-end, c.len-i-end.ensures) in
    subst (λ m. AreListCounts c.args.counts.now.total (ns ++ item_counts k (map (piece_row k c.args.piece) (range_with_len 0 m))) c.loop-i.counts)
    all (c.loop-i.invariant ns h)

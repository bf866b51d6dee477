use Rattle.std.proofs.Common.{◌*◌, ap, arith}
use Rattle.std.proofs.lemmas.Result.{err_from_is_err_and}
use Rattle.vx_base.specs.DTypes.{dtype_meaning}
use Rattle.vx_pack.proofs.ListItems.{pieces_items_count, pieces_items_within, same_list_items}
use Rattle.vx_pack.proofs.PiecesRead.{piece_at}
use Rattle.vx_pack.proofs.list_counts.check_same_lists.Goals as goal
use Rattle.vx_pack.proofs.list_counts.check_same_lists.Goals.{in-Some+in_ok-total, in_default}

pub returns-in_err-total : goal.returns-in_err-total
returns-in_err-total c =
    let k = dtype_meaning c.args.dtype.now in
    let ps = c.args.pieces.now in
    let i = c.loop-piece.piece-index in
    let q = c.piece-item.result in
    let size = c.in-Some.size in
    let piece = piece_at k ps i q c.requires.pieces c.loop-piece-test.true c.piece-item.is in
    let same = same_list_items k q size (c.in-Some.ensures k c.requires.lists piece) in
    let within = pieces_items_within k ps i q c.loop-piece-test.true c.piece-item.is in
    let p = err_from_is_err_and c.from_residual.result c.from_residual.ensures.1 in
    rw (p.1, p.2) (
      c.in_err-total.ensures.0,
      omega (arith, within, same, ap (λ n. n * size) c.len.ensures, c.in_err-total.ensures.1, c.loop-piece.invariant),
    )

pub loop-piece-preserved : goal.loop-piece-preserved
loop-piece-preserved c =
    let k = dtype_meaning c.args.dtype.now in
    let ps = c.args.pieces.now in
    let i = c.loop-piece.piece-index in
    let q = c.piece-item.result in
    let piece = piece_at k ps i q c.requires.pieces c.loop-piece-test.true c.piece-item.is in
    let more = pieces_items_count k ps i q c.loop-piece-test.true c.piece-item.is in
    elim c.match-one_len.branch [
      | in-Some+in_ok-total w ↦
          let size = w.in-Some.size in
          let same = same_list_items k q size (w.in-Some.ensures k c.requires.lists piece) in
          omega (arith, more, same, ap (λ n. n * size) w.len.ensures, w.in_ok-total.ensures, w.total-is, c.loop-piece.invariant)
      | in_default w ↦ omega (arith, more, w.total-is, c.loop-piece.invariant)
    ]

use Rattle.std.proofs.Common.{◌≡◌, ◌∙◌, ◌+◌, ◌*◌, length, ap, sum, sym, arith}
use Rattle.std.proofs.lemmas.Result.{MatchResult-weaker}
use Rattle.vx_base.specs.DTypes.{dtype_meaning}
use Rattle.vx_pack.specs.CountBytes.{counts_of}
use Rattle.vx_pack.specs.ListItems.{item_of, list_items}
use Rattle.vx_pack.specs.Pieces.{piece_rows}
use Rattle.vx_pack.proofs.JoinedLists.{sum-list_sizes}
use Rattle.vx_pack.proofs.ListItems.{items_of_lists, same_list_items}
use Rattle.vx_pack.proofs.list_counts.total_with.Goals as goal

pub total_with_counts-requires-clause-counts : goal.total_with_counts-requires-clause-counts
total_with_counts-requires-clause-counts c =
    let k = dtype_meaning c.args.dtype.now in
    (c.in-Some.ensures.lists (item_of k) k (items_of_lists k c.requires.lists) c.requires.piece).lists.sizes

pub returns-in-Some : goal.returns-in-Some
returns-in-Some c =
    let k = dtype_meaning c.args.dtype.now in
    let p = c.args.piece in
    let s = c.in-Some.lists in
    let stored = c.in-Some.ensures.lists (item_of k) k (items_of_lists k c.requires.lists) c.requires.piece in
    let count : sum (counts_of s.size_type s.sizes.now) ≡ length (list_items k (piece_rows k p)) =
    ap sum stored.sizes ∙ sum-list_sizes (item_of k) (piece_rows k p) in
    MatchResult-weaker c.total_with_counts.result c.total_with_counts.ensures
    (λ total h. (h.0 ∙ ap (λ n. c.args.before + n) count, h.1))
    (λ e h. (h.0, omega (arith, h.1, count)))

pub returns-in-Some-one_len : goal.returns-in-Some-one_len
returns-in-Some-one_len c =
    let k = dtype_meaning c.args.dtype.now in
    let p = c.args.piece in
    let size = c.in-Some-one_len.size in
    let count : c.len.result * size ≡ length (list_items k (piece_rows k p)) =
    ap (λ n. n * size) c.len.ensures ∙ sym (same_list_items k p size (c.in-Some-one_len.ensures k c.requires.lists c.requires.piece)) in
    MatchResult-weaker c.total_with_same.result c.total_with_same.ensures
    (λ total h. (h.0 ∙ ap (λ n. c.args.before + n) count, h.1))
    (λ e h. (h.0, omega (arith, h.1, count)))

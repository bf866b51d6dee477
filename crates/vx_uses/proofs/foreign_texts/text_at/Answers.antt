use Rattle.std.proofs.Common.{◌≡◌, ◌<◌, Some, true, IsUtf8, sym, ◌∙◌, ap, subst}
use Rattle.vx_tree.specs.Meaning.{is_texts, kind_of, row_at, tree_len}
use Rattle.vx_tree.specs.Values.{bytes_in}
use Rattle.vx_uses.proofs.ReadTexts.{bytes_are_text}
use Rattle.vx_uses.proofs.foreign_texts.text_at.Goals as goal

pub unreachable-requires : goal.unreachable-requires
unreachable-requires c =
    let array = c.as_array-array.result.now in
    let value = c.in_ok-bytes.bytes.now in
    let lent = c.as_array-array.ensures.value in
    let inside : c.args.row < tree_len array = subst (λ t. c.args.row < tree_len t) (sym lent) c.requires.in_bounds in
    let texts : is_texts (kind_of array) ≡ true = ap (λ t. is_texts (kind_of t)) lent ∙ c.requires.texts in
    let text : IsUtf8 value = bytes_are_text (kind_of array) (row_at array c.args.row) value texts (c.rows_fit_their_dtype.ensures c.args.row inside) c.in_ok-bytes.ensures in
    absurd (c.in-Err.ensures.cases.0 text)

pub returns : goal.returns
returns c =
    ap Some c.in-Ok.ensures.cases.0 ∙ sym c.in_ok-bytes.ensures ∙ ap (λ t. bytes_in (row_at t c.args.row)) c.as_array-array.ensures.value

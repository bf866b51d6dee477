use Rattle.std.proofs.Common.{◌∙◌, length, ap, sym}
use Rattle.vx_pack.specs.ListItems.{item_of}
use Rattle.vx_pack.proofs.ListItems.{items_of_lists, lists_have_no_blank}
use Rattle.vx_pack.proofs.PieceRows.{length-piece_rows}
use Rattle.vx_pack.proofs.pieces.Piece.list_len.Goals as goal

pub returns : goal.returns
returns c = λ k lists piece.
    let list = c.list_or_blank.ensures (item_of k) k (items_of_lists k lists) (lists_have_no_blank k lists) piece in
    c.len.ensures ∙ sym (length-piece_rows (item_of k) c.list_or_blank.result) ∙ ap length list.rows

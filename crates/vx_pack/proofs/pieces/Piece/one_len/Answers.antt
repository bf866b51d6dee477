use Rattle.std.proofs.Common.{◌≡◌, ◌∙◌, length, ap, sym}
use Rattle.vx_pack.specs.ListItems.{item_of}
use Rattle.vx_pack.specs.Packed.{items_or_blank}
use Rattle.vx_pack.specs.Pieces.{piece_len, piece_row}
use Rattle.vx_pack.proofs.PieceRows.{All-range_with_len}
use Rattle.vx_pack.proofs.pieces.Piece.one_len.Goals as goal

pub returns-then-has_one_row : goal.returns-then-has_one_row
returns-then-has_one_row c = λ k lists piece.
    let p = c.args.self in
    All-range_with_len (λ r. length (items_or_blank (item_of k) 0 r) ≡ c.list_len.result) (piece_row k p) (piece_len p) (λ i l.
    ap (λ r. length (items_or_blank (item_of k) 0 r)) (c.has_one_row.ensures k c.if-has_one_row.true i)
    ∙ sym (c.list_len.ensures k lists piece))

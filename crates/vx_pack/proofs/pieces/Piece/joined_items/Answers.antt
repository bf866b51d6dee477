use Rattle.std.proofs.Common.{◌∷◌, [], sym, subst}
use Rattle.std.specs.List.{flat_map}
use Rattle.vx_pack.proofs.JoinedPieces.{joined_of_part}
use Rattle.vx_pack.specs.declared.pieces.Piece.{Piece}
use Rattle.vx_pack.specs.declared.pieces.Piece.TheVariants.{Rows}
use Rattle.vx_pack.specs.Packed.{items_or_blank}
use Rattle.vx_pack.specs.Pieces.{AreJoined, IsPiece, piece_rows}
use Rattle.vx_pack.proofs.pieces.Piece.joined_items.Goals as goal

pub returns-in_ok-joined_items-in-Rows : goal.returns-in_ok-joined_items-in-Rows
returns-in_ok-joined_items-in-Rows c = λ item k blank of_item blanks whole.
    let part = subst (IsPiece k) c.in-Rows.is whole in
    subst (λ (p : Piece). AreJoined item (flat_map (items_or_blank item blank) (piece_rows k p)) (Rows c.in_ok-joined_items-in-Rows.field-0 ∷ []))
    (sym c.in-Rows.is) (joined_of_part item k blank c.in-Rows.part c.in_ok-joined_items-in-Rows.field-0
    (c.in_ok-joined_items-in-Rows.ensures item k blank of_item blanks part))

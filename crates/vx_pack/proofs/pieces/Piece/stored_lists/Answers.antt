use Rattle.std.proofs.Common.{sym, subst}
use Rattle.std.proofs.lemmas.Option.{IfSome_then}
use Rattle.vx_pack.specs.declared.pieces.Piece.{Piece}
use Rattle.vx_pack.specs.Pieces.{IsPiece, piece_rows}
use Rattle.vx_pack.specs.StoredLists.{AreStoredLists}
use Rattle.vx_pack.proofs.pieces.Piece.stored_lists.Goals as goal

pub returns-in-Rows-clause-lists : goal.returns-in-Rows-clause-lists
returns-in-Rows-clause-lists c =
    IfSome_then c.stored_lists.result c.stored_lists.ensures.lists (λ s h item k of_item whole.
    subst (λ (p : Piece). AreStoredLists item (piece_rows k p) s) (sym c.in-Rows.is)
    (h item k of_item (subst (IsPiece k) c.in-Rows.is whole)))

use Rattle.std.proofs.Common.{sym, subst}
use Rattle.std.proofs.lemmas.Option.{IfSome_then}
use Rattle.vx_pack.proofs.StoredTexts.{values_of_part}
use Rattle.vx_pack.specs.declared.pieces.Piece.{Piece}
use Rattle.vx_pack.specs.Pieces.{IsPiece}
use Rattle.vx_pack.specs.StoredTexts.{AreValuesIn}
use Rattle.vx_pack.proofs.pieces.Piece.stored_texts.Goals as goal

pub returns-in-Rows : goal.returns-in-Rows
returns-in-Rows c =
    IfSome_then c.stored_texts.result c.stored_texts.ensures (λ s stored k values whole.
    subst (λ (p : Piece). AreValuesIn k p s) (sym c.in-Rows.is)
    (values_of_part k c.in-Rows.part s stored values (subst (IsPiece k) c.in-Rows.is whole)))

use Rattle.std.proofs.Common.{◌<◌, sym, subst}
use Rattle.vx_pack.proofs.ListPieces.{list_of_default, list_that_is_null, list_that_is_there}
use Rattle.vx_pack.specs.declared.pieces.Piece.TheVariants.{Blank, Rows}
use Rattle.vx_pack.specs.Parts.{part_len, part_row}
use Rattle.vx_pack.specs.Pieces.{IsListPiece, IsPiece, piece_row}
use Rattle.vx_pack.proofs.pieces.Piece.list_or_blank.Goals as goal

pub returns-in-Some : goal.returns-in-Some
returns-in-Some c = λ item k of_item size whole.
    let part = subst (IsPiece k) c.in-Rows.is whole in
    subst (λ p. IsListPiece item c.args.blank (piece_row k p c.args.i) (Rows c.in-Some.list)) (sym c.in-Rows.is)
    (list_that_is_there item c.args.blank (part_row k c.in-Rows.part c.args.i) c.in-Some.list (c.in-Some.ensures item k of_item part))

pub returns-in-None : goal.returns-in-None
returns-in-None c = λ item k of_item size whole.
    let part = subst (IsPiece k) c.in-Rows.is whole in
    let inside : c.args.i < part_len c.in-Rows.part = rw c.in-Rows.is at c.requires.in_bounds in
    subst (λ p. IsListPiece item c.args.blank (piece_row k p c.args.i) (Blank c.args.blank)) (sym c.in-Rows.is)
    (list_that_is_null item k c.args.blank (part_row k c.in-Rows.part c.args.i) of_item (part.fits c.args.i inside)
    (c.in-None.ensures item k of_item part) c.ranges.blank.fits)

pub returns-in-Blank : goal.returns-in-Blank
returns-in-Blank c = λ item k of_item size whole.
    subst (λ p. IsListPiece item c.args.blank (piece_row k p c.args.i) (Blank c.args.blank)) (sym c.in-Blank.is)
    (list_of_default item k c.args.blank of_item size c.ranges.blank.fits)

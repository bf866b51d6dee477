use Rattle.std.proofs.Common.{◌<◌, sym, subst, arith}
use Rattle.vx_base.specs.DTypes.{field_kinds, field_names}
use Rattle.vx_base.specs.Kinds.{records}
use Rattle.vx_pack.proofs.FieldPieces.{field_of_default_row, field_that_is_null, field_that_is_there}
use Rattle.vx_pack.proofs.SameParts.{fields_counted}
use Rattle.vx_pack.specs.declared.pieces.Piece.TheVariants.{Blank, Rows}
use Rattle.vx_pack.specs.Parts.{part_len, part_row}
use Rattle.vx_pack.specs.Pieces.{IsFieldPiece, IsPiece, piece_row}
use Rattle.vx_pack.specs.Records.{kind_at}
use Rattle.vx_pack.proofs.pieces.Piece.field_or_blank.Goals as goal

pub field-requires-clause-in_bounds : goal.field-requires-clause-in_bounds
field-requires-clause-in_bounds c =
    let names = field_names c.args.fields.now in
    let ks = field_kinds c.args.fields.now in
    let part = subst (IsPiece (records names ks c.requires.piece.0)) c.in-Rows.is c.requires.piece.1 in
    let found = c.in-Some.ensures names ks c.requires.piece.0 part in
    omega (arith, fields_counted names ks c.in-Some.record found.formed.kinds, c.requires.place)

pub returns-in-Some : goal.returns-in-Some
returns-in-Some c = λ n whole.
    let names = field_names c.args.fields.now in
    let ks = field_kinds c.args.fields.now in
    let k = records names ks n in
    let found = c.in-Some.ensures names ks n (subst (IsPiece k) c.in-Rows.is whole) in
    subst (λ p. IsFieldPiece (kind_at c.args.place ks) c.args.place (piece_row k p c.args.i) (Rows c.field.result)) (sym c.in-Rows.is)
    (field_that_is_there names ks (part_row k c.in-Rows.part c.args.i) c.in-Some.record c.args.place c.field.result found
    (c.field.ensures names ks found.formed))

pub returns-in-None : goal.returns-in-None
returns-in-None c = λ n whole.
    let names = field_names c.args.fields.now in
    let ks = field_kinds c.args.fields.now in
    let k = records names ks n in
    let part = subst (IsPiece k) c.in-Rows.is whole in
    let inside : c.args.i < part_len c.in-Rows.part = rw c.in-Rows.is at c.requires.in_bounds in
    subst (λ p. IsFieldPiece (kind_at c.args.place ks) c.args.place (piece_row k p c.args.i) (Blank 1)) (sym c.in-Rows.is)
    (field_that_is_null names ks n (kind_at c.args.place ks) (part_row k c.in-Rows.part c.args.i) c.args.place (part.fits c.args.i inside)
    (c.in-None.ensures names ks n part))

pub returns-in-Blank : goal.returns-in-Blank
returns-in-Blank c = λ n whole.
    let names = field_names c.args.fields.now in
    let ks = field_kinds c.args.fields.now in
    subst (λ p. IsFieldPiece (kind_at c.args.place ks) c.args.place (piece_row (records names ks n) p c.args.i) (Blank 1))
    (sym c.in-Blank.is)
    (field_of_default_row c.args.fields.now n c.args.place c.requires.place)

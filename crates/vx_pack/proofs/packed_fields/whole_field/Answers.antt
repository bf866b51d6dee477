use Rattle.std.proofs.Common.{◌∷◌, [], sym, subst, arith}
use Rattle.vx_base.specs.DTypes.{field_kinds, field_names}
use Rattle.vx_base.specs.Kinds.{records}
use Rattle.vx_pack.proofs.FieldPieces.{column_of_defaults, column_of_records}
use Rattle.vx_pack.proofs.SameParts.{fields_counted}
use Rattle.vx_pack.specs.declared.pieces.Piece.TheVariants.{Blank, Rows}
use Rattle.vx_pack.specs.Pieces.{AreFieldPieces, IsPiece, piece_rows}
use Rattle.vx_pack.specs.Records.{kind_at}
use Rattle.vx_pack.proofs.packed_fields.whole_field.Goals as goal

pub field-requires-clause-reach : goal.field-requires-clause-reach
field-requires-clause-reach c =
    let names = field_names c.args.fields.now in
    let ks = field_kinds c.args.fields.now in
    let part = subst (IsPiece (records names ks c.requires.piece.0)) c.in-Rows.is c.requires.piece.1 in
    let found = c.in_ok-records-in-Rows.ensures names ks c.requires.piece.0 part in
    found.formed.reach

pub field-requires-clause-in_bounds : goal.field-requires-clause-in_bounds
field-requires-clause-in_bounds c =
    let names = field_names c.args.fields.now in
    let ks = field_kinds c.args.fields.now in
    let part = subst (IsPiece (records names ks c.requires.piece.0)) c.in-Rows.is c.requires.piece.1 in
    let found = c.in_ok-records-in-Rows.ensures names ks c.requires.piece.0 part in
    omega (arith, fields_counted names ks c.in_ok-records-in-Rows.field-0 found.formed.kinds, c.requires.place)

pub returns-in_ok-records-in-Rows : goal.returns-in_ok-records-in-Rows
returns-in_ok-records-in-Rows c = λ n whole.
    let names = field_names c.args.fields.now in
    let ks = field_kinds c.args.fields.now in
    let k = records names ks n in
    let found = c.in_ok-records-in-Rows.ensures names ks n (subst (IsPiece k) c.in-Rows.is whole) in
    subst (λ p. AreFieldPieces (kind_at c.args.place ks) c.args.place (piece_rows k p) (Rows c.field.result ∷ [])) (sym c.in-Rows.is)
    (column_of_records names ks n c.args.place c.in-Rows.part c.in_ok-records-in-Rows.field-0 c.field.result found
    (c.field.ensures names ks found.formed))

pub returns-in-Blank : goal.returns-in-Blank
returns-in-Blank c = λ n whole.
    let names = field_names c.args.fields.now in
    let ks = field_kinds c.args.fields.now in
    let k = records names ks n in
    let small = subst (IsPiece k) c.in-Blank.is whole in
    subst (λ p. AreFieldPieces (kind_at c.args.place ks) c.args.place (piece_rows k p) (Blank c.in-Blank.len ∷ [])) (sym c.in-Blank.is)
    (column_of_defaults c.args.fields.now n c.args.place c.in-Blank.len c.requires.place small)

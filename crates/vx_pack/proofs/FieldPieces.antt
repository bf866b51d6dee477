-- Pieces that are a field of records, default rows where a record is null.
use Rattle.std.proofs.Common.{◌≡◌, ◌∙◌, ◌+◌, ◌<◌, ◌^◌, ℕ, zero, suc, Bool, true, false, List, [], ◌∷◌, ◌++◌, length, map, take, get_or}
use Rattle.std.proofs.Common.{refl, sym, ap, subst, arith, append_assoc, zero-add, None}
use Rattle.std.specs.List.{range_with_len}
use Rattle.std.proofs.lemmas.List.{append-nil, length-map, map-append}
use Rattle.std.proofs.lemmas.List.Elements.{All-append, All-cons, All-nil}
use Rattle.std.proofs.lemmas.Simd.{map-map}
use Rattle.vx_base.proofs.Fields.{kind_count_of}
use Rattle.vx_base.specs.DTypes.{field_kinds, field_names}
use Rattle.vx_base.specs.Defaults.{default_fields, default_row}
use Rattle.vx_base.specs.Fields.{kind_count}
use Rattle.vx_base.specs.Kinds.{Kind, records, Kinds, no_kinds, kind, Fits}
use Rattle.vx_base.specs.NamedItems.{items_in}
use Rattle.vx_base.specs.Rows.{Row}
use Rattle.vx_base.specs.declared.struct_fields.StructFields.{StructFields}
use Rattle.vx_tree.specs.RowParts.{field_at}
use Rattle.vx_pack.specs.declared.fields.Records.{Records}
use Rattle.vx_pack.specs.declared.parts.Part.{Part}
use Rattle.vx_pack.specs.declared.pieces.Piece.{Piece}
use Rattle.vx_pack.specs.declared.pieces.Piece.TheVariants as piece
use Rattle.vx_pack.specs.Packed.{field_or_default}
use Rattle.vx_pack.specs.Parts.{part_row}
use Rattle.vx_pack.specs.Pieces.{AreFieldPieces, ArePieces, IsFieldPiece, IsPiece, piece_len, piece_row, piece_rows, pieces_rows}
use Rattle.vx_pack.specs.Records.{AreRecordsIn, IsField, IsRecordOf, kind_at}
use Rattle.vx_pack.specs.RowForms.{record_in}
use Rattle.vx_base.proofs.ListParts.{map_range_same}
use Rattle.vx_pack.proofs.PieceRows.{length-pieces_rows, piece_rows_more, pieces_rows-append, pieces_rows-one}
use Rattle.vx_pack.proofs.PieceRows.{pieces_rows_more}
use Rattle.vx_pack.proofs.RowForms.{no_record}

-- ---- the fields of default rows

-- a record has as many names as kinds
pub fields_are_even : (fs : StructFields) → kind_count (field_kinds fs) ≡ length (field_names fs)
fields_are_even fs = kind_count_of (items_in fs.named) ∙ length-map fs.named (λ n. n.1) ∙ sym (length-map fs.named (λ n. n.0))

field_of_defaults : (names : List (List ℕ)) (ks : Kinds) (place : ℕ) → kind_count ks ≡ length names → place < length names
    → field_at place (default_fields names ks) ≡ default_row (kind_at place ks)
field_of_defaults [] ks place even l = absurd (omega arith)
field_of_defaults (m ∷ names) no_kinds place even l = absurd (omega arith)
field_of_defaults (m ∷ names) (kind k ks) zero even l = refl
field_of_defaults (m ∷ names) (kind k ks) (suc place) even l = field_of_defaults names ks place (omega arith) (omega arith)

field_of_default : (names : List (List ℕ)) (ks : Kinds) (n : Bool) (place : ℕ) → kind_count ks ≡ length names → place < length names
    → field_or_default (kind_at place ks) place (default_row (records names ks n)) ≡ default_row (kind_at place ks)
field_of_default names ks true place even l = refl
field_of_default names ks false place even l = field_of_defaults names ks place even l

-- ---- the field of one record

pub field_that_is_there : (names : List (List ℕ)) (ks : Kinds) (r : Row) (rs : Records) (place : ℕ) (p : Part) → IsRecordOf names ks r rs
    → IsField names ks rs place p
    → IsFieldPiece (kind_at place ks) place r (piece.Rows p)
field_that_is_there names ks r rs place p record_is field = record {
  piece = field.part;
  rows =
      ap (λ n. map (part_row (kind_at place ks) p) (range_with_len 0 n)) (field.len ∙ record_is.one)
      ∙ ap (λ x. x ∷ []) (
      field.rows 0 (omega (arith, record_is.one)) ∙ sym (ap (field_or_default (kind_at place ks) place) record_is.row));
}

-- a row that is no record
pub field_that_is_null : (names : List (List ℕ)) (ks : Kinds) (n : Bool) (k : Kind) (r : Row) (place : ℕ) → Fits (records names ks n) r
    → record_in r ≡ None
    → IsFieldPiece k place r (piece.Blank 1)
field_that_is_null names ks n k r place fits none = record {
  piece = omega arith;
  rows = sym (ap (λ x. field_or_default k place x ∷ []) (no_record names ks n r fits none));
}

-- a default row
pub field_of_default_row : (fs : StructFields) (n : Bool) (place : ℕ) → place < length (field_names fs)
    → IsFieldPiece (kind_at place (field_kinds fs)) place (default_row (records (field_names fs) (field_kinds fs) n)) (piece.Blank 1)
field_of_default_row fs n place l = record {
  piece = omega arith;
  rows = ap (λ x. x ∷ []) (sym (field_of_default (field_names fs) (field_kinds fs) n place (fields_are_even fs) l));
}

-- ---- the fields of records, one after another

pub AreFieldPieces-nil : (k : Kind) (place : ℕ) → AreFieldPieces k place [] []
AreFieldPieces-nil k place = record { each = All-nil (IsPiece k); fields = refl }

pub AreFieldPieces-one : (k : Kind) (place : ℕ) (r : Row) (p : Piece) → IsFieldPiece k place r p → AreFieldPieces k place (r ∷ []) (p ∷ [])
AreFieldPieces-one k place r p field = record {
  each = All-cons (IsPiece k) p [] field.piece (All-nil (IsPiece k));
  fields = pieces_rows-one k p ∙ field.rows;
}

pub AreFieldPieces-append : (k : Kind) (place : ℕ) (rs ss : List Row) (ps qs : List Piece) → AreFieldPieces k place rs ps
    → AreFieldPieces k place ss qs → AreFieldPieces k place (rs ++ ss) (ps ++ qs)
AreFieldPieces-append k place rs ss ps qs first second = record {
  each = All-append (IsPiece k) ps qs first.each second.each;
  fields = pieces_rows-append k ps qs ∙ (λ i. first.fields i ++ second.fields i) ∙ sym (map-append (field_or_default k place) rs ss);
}

-- fields that stand at the end of others
abbrev pub ArePushedFields : Kind → ℕ → List Row → List Piece → List Piece → Type 0
ArePushedFields k place rs before after = (more : List Piece) × AreFieldPieces k place rs more × (after ≡ before ++ more)

pub ArePushedFields-nil : (k : Kind) (place : ℕ) (ps : List Piece) → ArePushedFields k place [] ps ps
ArePushedFields-nil k place ps = ([], AreFieldPieces-nil k place, sym (append-nil ps))

-- one more
pub ArePushedFields-more : (k whole : Kind) (place i : ℕ) (p field : Piece) (before now after : List Piece)
    → ArePushedFields k place (map (piece_row whole p) (range_with_len 0 i)) before now
    → IsFieldPiece k place (piece_row whole p i) field → after ≡ now ++ field ∷ []
    → ArePushedFields k place (map (piece_row whole p) (range_with_len 0 (i + 1))) before after
ArePushedFields-more k whole place i p field before now after h one e =
    subst (λ rs. ArePushedFields k place rs before after) (sym (piece_rows_more whole p i)) (
      h.0 ++ field ∷ [],
      AreFieldPieces-append k place (map (piece_row whole p) (range_with_len 0 i)) (piece_row whole p i ∷ []) h.0 (field ∷ []) h.1
          (AreFieldPieces-one k place (piece_row whole p i) field one),
      e ∙ ap (λ ps. ps ++ field ∷ []) h.2 ∙ append_assoc before h.0 (field ∷ []),
    )

-- those of one more piece
pub AreFieldPieces-more : (k whole : Kind) (place i : ℕ) (ps : List Piece) (p : Piece) (before after : List Piece) → i < length ps
    → p ≡ get_or ps i p
    → AreFieldPieces k place (pieces_rows whole (take i ps)) before → ArePushedFields k place (piece_rows whole p) before after
    → AreFieldPieces k place (pieces_rows whole (take (i + 1) ps)) after
AreFieldPieces-more k whole place i ps p before after l at first more =
    subst (λ rs. AreFieldPieces k place rs after) (sym (pieces_rows_more whole ps i p l at))
    (subst (AreFieldPieces k place (pieces_rows whole (take i ps) ++ piece_rows whole p)) (sym more.2)
    (AreFieldPieces-append k place (pieces_rows whole (take i ps)) (piece_rows whole p) before more.0 first more.1))

-- ---- the field of all rows of a piece

fields_by_row : (k whole : Kind) (place : ℕ) (p q : Piece) → IsPiece k q → piece_len q ≡ piece_len p
    → ((i : ℕ) → i < piece_len p → piece_row k q i ≡ field_or_default k place (piece_row whole p i))
    → AreFieldPieces k place (piece_rows whole p) (q ∷ [])
fields_by_row k whole place p q of_kind len each = record {
  each = All-cons (IsPiece k) q [] of_kind (All-nil (IsPiece k));
  fields =
      pieces_rows-one k q
      ∙ ap (λ n. map (piece_row k q) (range_with_len 0 n)) len
      ∙ map_range_same (piece_row k q) (λ i. field_or_default k place (piece_row whole p i)) 0 0 (piece_len p) (λ i l. told i l)
      ∙ sym (map-map (field_or_default k place) (piece_row whole p) (range_with_len 0 (piece_len p)));
}
  where
    told : (i : ℕ) → i < piece_len p → piece_row k q (0 + i) ≡ field_or_default k place (piece_row whole p (0 + i))
    told i l =
        let here : 0 + i ≡ i = zero-add i in
        ap (piece_row k q) here ∙ each i l ∙ sym (ap (λ j. field_or_default k place (piece_row whole p j)) here)

-- a column
pub column_of_records : (names : List (List ℕ)) (ks : Kinds) (n : Bool) (place : ℕ) (p : Part) (rs : Records) (field : Part)
    → AreRecordsIn names ks p rs → IsField names ks rs place field
    → AreFieldPieces (kind_at place ks) place (piece_rows (records names ks n) (piece.Rows p)) (piece.Rows field ∷ [])
column_of_records names ks n place p rs field whole h =
    fields_by_row (kind_at place ks) (records names ks n) place (piece.Rows p) (piece.Rows field) h.part (h.len ∙ whole.count) (λ i l.
    h.rows i (omega (arith, whole.count)) ∙ sym (ap (field_or_default (kind_at place ks) place) (whole.rows n i l)))

-- default rows
pub column_of_defaults : (fs : StructFields) (n : Bool) (place len : ℕ) → place < length (field_names fs) → len < 2 ^ 64
    → AreFieldPieces (kind_at place (field_kinds fs)) place (piece_rows (records (field_names fs) (field_kinds fs) n) (piece.Blank len))
    (piece.Blank len ∷ [])
column_of_defaults fs n place len l small =
    fields_by_row (kind_at place (field_kinds fs)) (records (field_names fs) (field_kinds fs) n) place (piece.Blank len) (piece.Blank len)
    small refl (λ i below.
    sym (field_of_default (field_names fs) (field_kinds fs) n place (fields_are_even fs) l))

-- ---- they are the pieces of the field

-- as many as there are records
pub ArePieces-fields : (k whole : Kind) (place : ℕ) (ps qs : List Piece) (len : ℕ) → ArePieces whole ps len
    → AreFieldPieces k place (pieces_rows whole ps) qs → ArePieces k qs len
ArePieces-fields k whole place ps qs len pieces fields = record {
  each = fields.each;
  count =
      sym (length-pieces_rows k qs) ∙ ap length fields.fields ∙ length-map (pieces_rows whole ps) (field_or_default k place)
      ∙ length-pieces_rows whole ps ∙ pieces.count;
  fits = pieces.fits;
}

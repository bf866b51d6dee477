-- Pieces that are the lists of rows, default rows where a row is null.
use Rattle.std.proofs.Common.{◌≡◌, ◌∙◌, ◌+◌, ◌*◌, ◌<◌, ◌^◌, ℕ, zero, suc, Bool, true, false, List, [], ◌∷◌, ◌++◌, length, map, replicate}
use Rattle.std.proofs.Common.{take, refl, sym, ap, subst, add-one, mul-zero, None, get_or, inl, inr}
use Rattle.std.specs.List.{All, flat_map, range_with_len}
use Rattle.std.proofs.lemmas.List.{append_assoc, map-append, nil_from_length}
use Rattle.std.proofs.lemmas.List.Elements.{All-append, All-cons, All-nil}
use Rattle.std.proofs.lemmas.List.Folds.{flat_map-map}
use Rattle.vx_base.specs.Defaults.{default_row}
use Rattle.vx_base.specs.Kinds.{Kind, lists, fixed_lists, Fits}
use Rattle.vx_base.specs.Rows.{Row, list_from, list_in}
use Rattle.vx_tree.specs.Meaning.{rows_range}
use Rattle.vx_pack.specs.declared.parts.Part.{Part}
use Rattle.vx_pack.specs.declared.pieces.Piece.{Piece}
use Rattle.vx_pack.specs.declared.pieces.Piece.TheVariants as piece
use Rattle.vx_pack.specs.Lists.{IsItemOf, IsListOf, is_lists}
use Rattle.vx_pack.specs.Packed.{items_or_blank}
use Rattle.vx_pack.specs.Parts.{part_len, part_row}
use Rattle.vx_pack.specs.Pieces.{AreElements, AreListPieces, ArePieces, IsListPiece, IsPiece, blank_of, piece_row, piece_rows}
use Rattle.vx_pack.specs.Pieces.{pieces_rows}
use Rattle.vx_pack.proofs.BlankRows.{FitsOrBlank, fixed_lists_items_blank, list_from-rows_from}
use Rattle.vx_pack.proofs.JoinedLists.{All-flat_map, length-flat_map-same}
use Rattle.vx_pack.proofs.PieceRows.{All-range_with_len, length-pieces_rows}
use Rattle.vx_pack.proofs.PieceRows.{map-range_with_len-replicate, piece_rows_more, pieces_rows_more}
use Rattle.vx_pack.proofs.RowForms.{no_list}

-- ---- one list

pub list_from-rows_range : (f : ℕ → Row) (start n : ℕ) → list_from (rows_range f start n) ≡ map f (range_with_len start n)
list_from-rows_range f start zero = refl
list_from-rows_range f start (suc n) =
    ap (λ rs. f start ∷ rs) (list_from-rows_range f (suc start) n ∙ ap (λ k. map f (range_with_len k n)) (sym (add-one start)))

-- a list that is there
pub list_that_is_there : (item : Kind) (blank : ℕ) (r : Row) (p : Part) → IsListOf item r p → IsListPiece item blank r (piece.Rows p)
list_that_is_there item blank r p list = record {
  piece = list.part;
  rows = sym (ap (items_or_blank item blank) list.rows ∙ list_from-rows_range (part_row item p) 0 (part_len p));
}

-- default rows in place of a list
blank_list : (item : Kind) (blank : ℕ) (r : Row) → blank < 2 ^ 64 → items_or_blank item blank r ≡ replicate blank (default_row item)
    → IsListPiece item blank r (piece.Blank blank)
blank_list item blank r fits same = record {
  piece = fits;
  rows = map-range_with_len-replicate (default_row item) 0 blank ∙ sym same;
}

is_lists_of_items : (item k : Kind) → IsItemOf item k → is_lists k ≡ true
is_lists_of_items item (lists k n) of_item = refl
is_lists_of_items item (fixed_lists k size n) of_item = refl
is_lists_of_items item _ of_item = absurd of_item

-- a row that is no list
pub list_that_is_null : (item k : Kind) (blank : ℕ) (r : Row) → IsItemOf item k → Fits k r → list_in r ≡ None → blank < 2 ^ 64
    → IsListPiece item blank r (piece.Blank blank)
list_that_is_null item k blank r of_item fits none small =
    blank_list item blank r small (ap (items_or_blank item blank) (no_list k r (is_lists_of_items item k of_item) fits none))

default_items : (item k : Kind) → IsItemOf item k
    → items_or_blank item (blank_of k) (default_row k) ≡ replicate (blank_of k) (default_row item)
default_items item (lists k true) of_item = refl
default_items item (lists k false) of_item = refl
default_items item (fixed_lists k size true) of_item = refl
default_items item (fixed_lists k size false) of_item =
    list_from-rows_from (replicate size (default_row k)) ∙ ap (λ x. replicate size (default_row x)) of_item
default_items item _ of_item = absurd of_item

-- a default row
pub list_of_default : (item k : Kind) (blank : ℕ) → IsItemOf item k → blank_of k ≡ blank → blank < 2 ^ 64
    → IsListPiece item blank (default_row k) (piece.Blank blank)
list_of_default item k blank of_item size small =
    blank_list item blank (default_row k) small
    (subst (λ n. items_or_blank item n (default_row k) ≡ replicate n (default_row item)) size (default_items item k of_item))

-- ---- lists, one after another

pub AreListPieces-nil : (item : Kind) (blank : ℕ) → AreListPieces item blank [] []
AreListPieces-nil item blank = record { each = All-nil (IsPiece item); lists = refl }

pub AreListPieces-one : (item : Kind) (blank : ℕ) (r : Row) (p : Piece) → IsListPiece item blank r p
    → AreListPieces item blank (r ∷ []) (p ∷ [])
AreListPieces-one item blank r p list = record {
  each = All-cons (IsPiece item) p [] list.piece (All-nil (IsPiece item));
  lists = ap (λ rs. rs ∷ []) list.rows;
}

pub AreListPieces-append : (item : Kind) (blank : ℕ) (rs ss : List Row) (ps qs : List Piece) → AreListPieces item blank rs ps
    → AreListPieces item blank ss qs
    → AreListPieces item blank (rs ++ ss) (ps ++ qs)
AreListPieces-append item blank rs ss ps qs first second = record {
  each = All-append (IsPiece item) ps qs first.each second.each;
  lists =
      map-append (piece_rows item) ps qs
      ∙ (λ i. first.lists i ++ second.lists i)
      ∙ sym (map-append (items_or_blank item blank) rs ss);
}

-- lists that stand at the end of others
abbrev pub ArePushedLists : Kind → ℕ → List Row → List Piece → List Piece → Type 0
ArePushedLists item blank rs before after = (more : List Piece) × AreListPieces item blank rs more × (after ≡ before ++ more)

-- one more
pub ArePushedLists-more : (item k : Kind) (blank i : ℕ) (p list : Piece) (before now after : List Piece)
    → ArePushedLists item blank (map (piece_row k p) (range_with_len 0 i)) before now
    → IsListPiece item blank (piece_row k p i) list → after ≡ now ++ list ∷ []
    → ArePushedLists item blank (map (piece_row k p) (range_with_len 0 (i + 1))) before after
ArePushedLists-more item k blank i p list before now after h one e =
    subst (λ rs. ArePushedLists item blank rs before after) (sym (piece_rows_more k p i)) (
      h.0 ++ list ∷ [],
      AreListPieces-append item blank (map (piece_row k p) (range_with_len 0 i)) (piece_row k p i ∷ []) h.0 (list ∷ []) h.1
          (AreListPieces-one item blank (piece_row k p i) list one),
      e ∙ ap (λ ps. ps ++ list ∷ []) h.2 ∙ append_assoc before h.0 (list ∷ []),
    )

-- ---- their rows

lists_are : (item : Kind) (ps : List Piece) → pieces_rows item ps ≡ flat_map (λ rs. rs) (map (piece_rows item) ps)
lists_are item ps = sym (flat_map-map (λ (rs : List Row). rs) (piece_rows item) ps)

pub rows_of_lists : (item : Kind) (blank : ℕ) (rs : List Row) (ps : List Piece) → AreListPieces item blank rs ps
    → pieces_rows item ps ≡ flat_map (items_or_blank item blank) rs
rows_of_lists item blank rs ps h =
    lists_are item ps ∙ ap (flat_map (λ ss. ss)) h.lists ∙ flat_map-map (λ (ss : List Row). ss) (items_or_blank item blank) rs

pub ArePieces-elements : (item : Kind) (n : ℕ) (rs : List Row) (ps : List Piece) → AreElements item n rs ps → n < 2 ^ 64
    → ArePieces item ps n
ArePieces-elements item n rs ps elements small = record { each = elements.each; count = elements.count; fits = small }

-- ---- lists of one size

-- the rows of pieces fit their kind, or are its default
rows_blank : (k : Kind) (p : Piece) → IsPiece k p → All (FitsOrBlank k) (piece_rows k p)
rows_blank k (piece.Rows p) h = All-range_with_len (FitsOrBlank k) (part_row k p) (part_len p) (λ i l. inl (h.fits i l))
rows_blank k (piece.Blank n) h = All-range_with_len (FitsOrBlank k) (λ i. default_row k) n (λ i l. inr (inl refl))

pub pieces_blank : (k : Kind) (ps : List Piece) → All (IsPiece k) ps → All (FitsOrBlank k) (pieces_rows k ps)
pieces_blank k ps each = All-flat_map (FitsOrBlank k) (piece_rows k) ps (λ i d l. rows_blank k (get_or ps i d) (each i d l))

-- so many of them have so many elements
pub elements_counted : (k item : Kind) (size : ℕ) (n : Bool) (ps : List Piece) (len : ℕ) → k ≡ fixed_lists item size n → ArePieces k ps len
    → length (flat_map (items_or_blank item size) (pieces_rows k ps)) ≡ len * size
elements_counted k item size n ps len kind pieces =
    let blank = subst (λ x. All (FitsOrBlank x) (pieces_rows k ps)) kind (pieces_blank k ps pieces.each) in
    length-flat_map-same (items_or_blank item size) size (pieces_rows k ps)
    (λ i d l. (fixed_lists_items_blank item size n (get_or (pieces_rows k ps) i d) (blank i d l)).len)
    ∙ ap (λ m. m * size) (length-pieces_rows k ps ∙ pieces.count)

-- lists of size 0 have none
pub AreElements-none : (k item : Kind) (size : ℕ) (n : Bool) (ps qs : List Piece) (len : ℕ) → size ≡ 0 → qs ≡ []
    → k ≡ fixed_lists item size n → ArePieces k ps len
    → AreElements item (len * size) (flat_map (items_or_blank item size) (pieces_rows k ps)) qs
AreElements-none k item size n ps qs len none no_pieces kind pieces =
    let rs = pieces_rows k ps in
    let scaled : len * size ≡ 0 = ap (λ m. len * m) none ∙ mul-zero len in
    let many : length (flat_map (items_or_blank item size) rs) ≡ 0 = elements_counted k item size n ps len kind pieces ∙ scaled in
    rw no_pieces (record {
      each = All-nil (IsPiece item);
      count = sym scaled;
      rows = sym (nil_from_length (flat_map (items_or_blank item size) rs) many);
    })

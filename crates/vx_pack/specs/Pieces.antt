-- Rows that are packed: those of parts, and default rows between them.
use Rattle.std.specs.Prelude.{◌≡◌, ◌<◌, ◌^◌, ℕ, List, [], ◌∷◌, ◌++◌, map, sum}
use Rattle.std.specs.List.{All, flat_map, range_with_len}
use Rattle.vx_base.specs.Defaults.{default_row}
use Rattle.vx_base.specs.Kinds.{Kind, fixed_lists}
use Rattle.vx_base.specs.Rows.{Row}
use Rattle.vx_tree.specs.Meaning.{kind_of, row_at}
use Rattle.vx_tree.specs.Tree.{Tree}
use Rattle.vx_pack.specs.Packed.{field_or_default, items_or_blank}
use Rattle.vx_pack.specs.Parts.{IsPart, IsWithin, part_len, part_row}
use Rattle.vx_pack.specs.declared.parts.Part.{Part}
use Rattle.vx_pack.specs.declared.pieces.Piece.{Piece}
use Rattle.vx_pack.specs.declared.pieces.Piece.TheVariants as piece

-- how many rows there are
abbrev pub piece_len : Piece → ℕ
piece_len (piece.Rows p) = part_len p
piece_len (piece.Blank n) = n

-- row i, of a kind
abbrev pub piece_row : Kind → Piece → ℕ → Row
piece_row k (piece.Rows p) i = part_row k p i
piece_row k (piece.Blank n) i = default_row k

-- the rows, in order
abbrev pub piece_rows : Kind → Piece → List Row
piece_rows k p = map (piece_row k p) (range_with_len 0 (piece_len p))

-- the rows of pieces, one piece after another
abbrev pub pieces_rows : Kind → List Piece → List Row
pieces_rows k ps = flat_map (piece_rows k) ps

-- the rows stand there
abbrev pub IsWithinPiece : Piece → Type 0
IsWithinPiece (piece.Rows p) = IsWithin p
IsWithinPiece (piece.Blank n) = n < 2 ^ 64

-- rows of a kind
abbrev pub IsPiece : Kind → Piece → Type 0
IsPiece k (piece.Rows p) = IsPart k p
IsPiece k (piece.Blank n) = n < 2 ^ 64

-- so many rows of a kind, one piece after another
pub record ArePieces (k : Kind) (ps : List Piece) (n : ℕ) : Type 0 where
  pub each : All (IsPiece k) ps
  pub count : sum (map piece_len ps) ≡ n
  pub fits : n < 2 ^ 64

-- how many default rows stand for a null row of a kind of lists
abbrev pub blank_of : Kind → ℕ
blank_of (fixed_lists k size n) = size
blank_of _ = 0

-- the rows of the list that a row is, default rows where it is null
pub record IsListPiece (item : Kind) (blank : ℕ) (r : Row) (p : Piece) : Type 0 where
  pub piece : IsPiece item p
  pub rows : piece_rows item p ≡ items_or_blank item blank r

-- the same of each row, one piece a row
pub record AreListPieces (item : Kind) (blank : ℕ) (rs : List Row) (ps : List Piece) : Type 0 where
  pub each : All (IsPiece item) ps
  pub lists : map (piece_rows item) ps ≡ map (items_or_blank item blank) rs

-- pieces of these rows
pub record AreJoined (item : Kind) (rs : List Row) (ps : List Piece) : Type 0 where
  pub each : All (IsPiece item) ps
  pub rows : pieces_rows item ps ≡ rs

-- the rows of an array at positions, as pieces at the end of others
abbrev pub ArePushedRows : Tree → List ℕ → List Piece → List Piece → Type 0
ArePushedRows e ks before after = (more : List Piece) × AreJoined (kind_of e) (map (row_at e) ks) more × (after ≡ before ++ more)

-- the rows of all lists of a part, one list after another
pub record AreAllItems (item : Kind) (size : ℕ) (k : Kind) (p q : Part) : Type 0 where
  pub part : IsPart item q
  pub rows :
      map (part_row item q) (range_with_len 0 (part_len q))
      ≡ flat_map (items_or_blank item size) (map (part_row k p) (range_with_len 0 (part_len p)))

-- pieces of so many rows, which are these
pub record AreElements (item : Kind) (n : ℕ) (rs : List Row) (ps : List Piece) : Type 0 where
  pub each : All (IsPiece item) ps
  pub count : sum (map piece_len ps) ≡ n
  pub rows : pieces_rows item ps ≡ rs

-- the field at a place of a row, a default row where it is null
pub record IsFieldPiece (k : Kind) (place : ℕ) (r : Row) (p : Piece) : Type 0 where
  pub piece : IsPiece k p
  pub rows : piece_rows k p ≡ field_or_default k place r ∷ []

-- the same of rows, in order
pub record AreFieldPieces (k : Kind) (place : ℕ) (rs : List Row) (ps : List Piece) : Type 0 where
  pub each : All (IsPiece k) ps
  pub fields : pieces_rows k ps ≡ map (field_or_default k place) rs

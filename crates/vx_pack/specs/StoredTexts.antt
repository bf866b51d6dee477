-- Texts and byte lists that stand by their views, and what is put into buffers.
use Rattle.std.specs.Prelude.{◌≡◌, ◌<◌, ◌≤◌, ◌+◌, ℕ, true, List, [], ◌∷◌, length, map, slice_index_or, IsTrue, Some}
use Rattle.std.specs.List.{All}
use Rattle.vx_base.specs.Kinds.{Kind, is_nullable_kind, Fits}
use Rattle.vx_base.specs.Rows.{Row}
use Rattle.vx_views.specs.Views.{view_of, view_value, Resolves}
use Rattle.vx_views.specs.declared.view.TheConstants.{MAX_BUFFER_LEN, MAX_INLINED_SIZE}
use Rattle.vx_tree.specs.Tree.{Valid}
use Rattle.vx_tree.specs.Values.{bytes_in}
use Rattle.vx_pack.specs.Packed.{has_bytes, packed_valid}
use Rattle.vx_text.specs.Filling.{Filling, IsPut, filling, viewed, with_room}
use Rattle.vx_text.specs.Items.{value_of}
use Rattle.vx_text.specs.declared.filling.Filling.{Filling as Buffers}
use Rattle.vx_pack.specs.Parts.{part_len, part_row}
use Rattle.vx_pack.specs.Pieces.{piece_rows}
use Rattle.vx_pack.specs.declared.parts.Part.{Part}
use Rattle.vx_pack.specs.declared.pieces.Piece.{Piece}
use Rattle.vx_pack.specs.declared.stored_texts.StoredTexts.{StoredTexts}

-- the bytes of a row that is a text or a byte list, no bytes where it is null
abbrev pub bytes_or_empty : Row → List ℕ
bytes_or_empty r = value_of (bytes_in r)

-- ---- rows that stand by views

-- the view of row i
abbrev pub stored_view : StoredTexts → ℕ → List ℕ
stored_view s i = slice_index_or s.views.now i []

-- the value that the view of row i has
abbrev pub stored_value : StoredTexts → ℕ → List ℕ
stored_value s i = view_value s.buffers.now (stored_view s i)

-- all values, in order
abbrev pub stored_values : StoredTexts → List (List ℕ)
stored_values s = map (view_value s.buffers.now) s.views.now

-- each view finds its value
abbrev pub AllResolve : StoredTexts → Type 0
AllResolve s = (i : ℕ) → i < length s.views.now → Resolves s.buffers.now (stored_view s i)

-- each row is the value of its view, no bytes where it is null; the flag says that none is
pub record AreStoredTexts (p : Part) (s : StoredTexts) : Type 0 where
  pub count : length s.views.now ≡ part_len p
  pub resolve : AllResolve s
  pub rows : (k : Kind) (i : ℕ) → i < part_len p → bytes_or_empty (part_row k p i) ≡ stored_value s i
  pub full : IsTrue s.is_full → (k : Kind) (i : ℕ) → i < part_len p → bytes_in (part_row k p i) ≡ Some (stored_value s i)

-- each row is the value of its view, and none is null
pub record AreFullTexts (p : Part) (s : StoredTexts) : Type 0 where
  pub count : length s.views.now ≡ part_len p
  pub resolve : AllResolve s
  pub rows : (k : Kind) (i : ℕ) → i < part_len p → bytes_in (part_row k p i) ≡ Some (stored_value s i)

-- so many of them, from one on
pub record IsRangeOf (s : StoredTexts) (start n : ℕ) (t : StoredTexts) : Type 0 where
  pub count : length t.views.now ≡ n
  pub values : (i : ℕ) → i < n → stored_value t i ≡ stored_value s (start + i)
  pub resolve : AllResolve s → AllResolve t

-- no value is longer than a buffer may be
abbrev pub AllShort : StoredTexts → Type 0
AllShort s = (i : ℕ) → i < length s.views.now → length (stored_value s i) ≤ MAX_BUFFER_LEN

-- the values are those of the rows of a piece
pub record AreValuesIn (k : Kind) (p : Piece) (s : StoredTexts) : Type 0 where
  pub resolve : AllResolve s
  pub short : AllShort s
  pub values : map bytes_or_empty (piece_rows k p) ≡ stored_values s

-- ---- what is put into buffers

-- buffers that are filled, and the views
abbrev pub filled : Buffers → Filling
filled f = filling f.full.items f.last.items f.views.items

-- one value more: its view holds it, or it is put into the last buffer, into another one where that has no room
pub record IsPushed (f : Filling) (value : List ℕ) (g : Filling) : Type 0 where
  pub held : length value ≤ MAX_INLINED_SIZE → g ≡ viewed f (view_of value 0 0)
  pub put : MAX_INLINED_SIZE < length value → IsPut (with_room f (length value)) value g

-- values, one after another
abbrev pub ArePushed : Filling → List (List ℕ) → Filling → Type 0
ArePushed f [] g = g ≡ f
ArePushed f (value ∷ values) g = (h : Filling) × IsPushed f value h × ArePushed h values g

-- buffers that are filled with the values of rows, no bytes where they are null, and the simplest validity of these rows
pub record AreTextsOf (k : Kind) (rs : List Row) (f : Filling) (v : Valid) : Type 0 where
  pub kind : has_bytes k ≡ true
  pub fits : All (Fits k) rs
  pub pushed : ArePushed (filling [] [] []) (map bytes_or_empty rs) f
  pub valid : v ≡ packed_valid (is_nullable_kind k) rs

-- Items of texts or byte lists, each a value or none, and the array that they make.
use Rattle.std.specs.Prelude.{◌≡◌, ◌<◌, ◌≤◌, ◌^◌, ℕ, Bool, true, false, List, [], length, map, nat_le, slice_index_or, unwrap_or, if◌then◌else◌}
use Rattle.std.specs.Prelude.{Option, Some, None}
use Rattle.std.specs.Option.{is_some}
use Rattle.std.specs.List.{flat_map}
use Rattle.vx_base.specs.Rows.{Row, null}
use Rattle.vx_base.specs.Kinds.{Kind, is_nullable_kind}
use Rattle.vx_base.specs.Refusals.{Refusal, has_nulls, value_too_long, or_else, first_fault}
use Rattle.vx_views.specs.Cut.{IsMaximalCut}
use Rattle.vx_views.specs.Faulty.{text_fault}
use Rattle.vx_views.specs.Places.{pieces_of, place_of, piece_of, offset_of}
use Rattle.vx_views.specs.Views.{view_of, view_value, Resolves}
use Rattle.vx_views.specs.declared.view.TheConstants.{MAX_INLINED_SIZE, MAX_BUFFER_LEN}
use Rattle.vx_tree.specs.Tree.{Tree, view_array, Valid, non_nullable, all_valid}
use Rattle.vx_tree.specs.Meaning.{row_at, is_texts, value_row}
use Rattle.vx_tree.specs.Validities.{valid_from}

abbrev pub Item : Type 0
Item = Option (List ℕ)

-- item i
abbrev pub item_at : List Item → ℕ → Item
item_at items i = slice_index_or items i None

-- the value of an item, no bytes where there is none
abbrev pub value_of : Item → List ℕ
value_of item = unwrap_or item []

-- ---- where the values stand

-- a view holds the value of an item
abbrev pub is_short : Item → Bool
is_short item = nat_le (length (value_of item)) MAX_INLINED_SIZE

-- the bytes of an item that stand in a buffer
abbrev pub heap_part : Item → List ℕ
heap_part item = if is_short item then [] else value_of item

-- the bytes for the buffers, one item after another
abbrev pub heap_of : List Item → List ℕ
heap_of items = flat_map heap_part items

-- how many of them each item has
abbrev pub heap_lens : List Item → List ℕ
heap_lens items = map (λ item. length (heap_part item)) items

-- the view of item i, where the buffers are the pieces with these ends
abbrev pub item_view : List Item → List ℕ → ℕ → List ℕ
item_view items ends i =
    let place = place_of (heap_lens items) i in
    view_of (value_of (item_at items i)) (piece_of ends place) (offset_of ends place)

-- the buffers are the pieces of the maximal cut of the values that their views do not hold, numbered from 0 within u32;
-- each view is that of its item, whose value it reads
pub record AreCut (items : List Item) (buffers views : List (List ℕ)) : Type 0 where
  pub ends : List ℕ
  pub cut : IsMaximalCut MAX_BUFFER_LEN (heap_lens items) ends
  pub pieces : buffers ≡ pieces_of (heap_of items) 0 ends
  pub numbered : length ends ≤ 2 ^ 32
  pub one_each : length views ≡ length items
  pub each : (i : ℕ) → i < length items → slice_index_or views i [] ≡ item_view items ends i
  pub resolve : (i : ℕ) → i < length items → Resolves buffers (slice_index_or views i [])
  pub read : (i : ℕ) → i < length items → view_value buffers (slice_index_or views i []) ≡ value_of (item_at items i)

-- ---- the array of items

-- a row for each: its value, null where there is none
abbrev pub item_row : Bool → Item → Row
item_row is_text None = null
item_row is_text (Some value) = value_row is_text value

-- which items are there, where null may stand
abbrev pub valid_items : Bool → List Bool → Valid
valid_items false present = non_nullable
valid_items true present = valid_from 0 present all_valid

-- an array of these items, of a kind
pub record IsArrayOf (k : Kind) (items : List Item) (a : Tree) : Type 0 where
  pub views : List (List ℕ)
  pub buffers : List (List ℕ)
  pub parts : AreCut items buffers views
  pub tree : a ≡ view_array views buffers k (valid_items (is_nullable_kind k) (map is_some items))
  pub rows : (i : ℕ) → i < length items → row_at a i ≡ item_row (is_texts k) (item_at items i)

-- ---- faults

-- none where no null may stand, a value longer than a buffer may be, or one that is no text where text is asked
abbrev pub item_fault : Bool → Bool → ℕ → Item → Option Refusal
item_fault is_text is_nullable row None = if is_nullable then None else Some has_nulls
item_fault is_text is_nullable row (Some value) =
    or_else (if nat_le (length value) MAX_BUFFER_LEN then None else Some (value_too_long row)) (text_fault is_text value row)

-- the fault of the first faulty item
abbrev pub items_fault : Bool → Bool → List Item → Option Refusal
items_fault is_text is_nullable items =
    first_fault (λ i. item_fault is_text is_nullable i (item_at items i)) (length items)

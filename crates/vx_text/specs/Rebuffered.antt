-- Texts and byte lists whose values are moved to new buffers.
use Rattle.std.specs.Prelude.{◌≡◌, ◌<◌, ◌≤◌, ◌-◌, ◌^◌, ℕ, false, List, [], length, map, replicate, sum, pos, nat_le, slice_index_or, if◌then◌else◌}
use Rattle.std.specs.Prelude.{Option, Some, None}
use Rattle.std.specs.List.{flat_map, range_with_len}
use Rattle.vx_base.specs.Refusals.{Refusal, overflow, or_else}
use Rattle.vx_views.specs.BuildFaults.{first_too_long, limit_fault, numbering_fault}
use Rattle.vx_views.specs.Cut.{IsMaximalCut}
use Rattle.vx_views.specs.Places.{pieces_of, place_of, piece_of, offset_of}
use Rattle.vx_views.specs.Views.{view_of, view_value, Resolves}
use Rattle.vx_tree.specs.Tree.{Tree, view_array}
use Rattle.vx_tree.specs.Meaning.{is_valid_at, kind_of}
use Rattle.vx_text.specs.Texts.{views_of, buffers_of, validity_of, view_data_of, value_in}

-- ---- the values of views

-- how many bytes each has
abbrev pub value_lens : List (List ℕ) → List (List ℕ) → List ℕ
value_lens buffers views = map (λ view. length (view_value buffers view)) views

-- one after another
abbrev pub joined_values : List (List ℕ) → List (List ℕ) → List ℕ
joined_values buffers views = flat_map (view_value buffers) views

-- ---- the values of an array

-- the value of row i, no bytes where it is null
abbrev pub bytes_at : Tree → ℕ → List ℕ
bytes_at t i = if is_valid_at (validity_of t) i then value_in (view_data_of t) i else []

-- those of all rows, in order
abbrev pub row_values : Tree → List (List ℕ)
row_values t = map (bytes_at t) (range_with_len 0 (length (views_of t)))

-- how many bytes each row has: none where it is null
abbrev pub row_lens : Tree → List ℕ
row_lens t = map (λ value. length value) (row_values t)

-- the values, one after another, those that stand in their views too
abbrev pub heap_of_rows : Tree → List ℕ
heap_of_rows t = flat_map (λ value. value) (row_values t)

-- the view of row i, where the buffers are the pieces of that heap with these ends
abbrev pub moved_view : Tree → List ℕ → ℕ → List ℕ
moved_view t ends i =
    let place = place_of (row_lens t) i in
    view_of (bytes_at t i) (piece_of ends place) (offset_of ends place)

-- ---- the array of them

-- the buffers are the pieces of the maximal cut of the values under the limit, numbered from 0 within u32; each view is that
-- of its value, which it reads, and 16 zero bytes where the row is null; the kind and the validity are the array's
pub record IsRebuffered (limit : ℕ) (t a : Tree) : Type 0 where
  pub ends : List ℕ
  pub cut : IsMaximalCut limit (row_lens t) ends
  pub numbered : length ends ≤ 2 ^ 32
  pub pieces : buffers_of a ≡ pieces_of (heap_of_rows t) 0 ends
  pub one_each : length (views_of a) ≡ length (views_of t)
  pub each : (i : ℕ) → i < length (views_of t) → slice_index_or (views_of a) i [] ≡ moved_view t ends i
  pub zeroes : (i : ℕ) → i < length (views_of t) → is_valid_at (validity_of t) i ≡ false
      → slice_index_or (views_of a) i [] ≡ replicate 16 0
  pub resolve : (i : ℕ) → i < length (views_of t) → Resolves (buffers_of a) (slice_index_or (views_of a) i [])
  pub read : (i : ℕ) → i < length (views_of t) → value_in (view_data_of a) i ≡ bytes_at t i
  pub tree : a ≡ view_array (views_of a) (buffers_of a) (kind_of t) (validity_of t)

-- ---- faults

-- values of so many bytes pass usize
abbrev pub heap_fault : ℕ → Option Refusal
heap_fault bytes = if nat_le bytes (2 ^ 64 - 1) then None else Some overflow

-- values of these lengths, none longer than the limit, cannot be numbered: together they pass usize, or the last of so many
-- pieces has a number that passes u32
abbrev pub too_many_fault : List ℕ → ℕ → Option Refusal
too_many_fault lens pieces = or_else (heap_fault (sum lens)) (numbering_fault 0 pieces)

-- the first value longer than the limit, then these
abbrev pub moving_fault : ℕ → List ℕ → ℕ → Option Refusal
moving_fault limit lens pieces = or_else (first_too_long limit (map pos lens)) (too_many_fault lens pieces)

-- of rows of these lengths, where the maximal cut has so many pieces
abbrev pub rebuffer_fault : ℕ → List ℕ → ℕ → Option Refusal
rebuffer_fault limit lens pieces = or_else (limit_fault limit) (moving_fault limit lens pieces)

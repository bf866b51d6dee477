-- Where the values of a heap stand once it is cut, and the views that say so.
-- `lens` are the values' lengths, `ends` the ends of the pieces, and the pieces are numbered from `start` on.
use Rattle.std.specs.Prelude.{◌≡◌, ℕ, ◌+◌, ◌-◌, ◌^◌, ◌<◌, ◌≤◌, List, [], ◌∷◌, ◌++◌, length, take, sum, count_by, nat_le, slice_range}
use Rattle.std.specs.Prelude.{slice_index, slice_index_or}
use Rattle.vx_views.specs.Cut.{IsMaximalCut}
use Rattle.vx_views.specs.Views.{view_of, view_value, Resolves}

-- the bytes of the pieces, the first of which begins at `from`
abbrev pub pieces_of : List ℕ → ℕ → List ℕ → List (List ℕ)
pieces_of heap from [] = []
pieces_of heap from (end ∷ ends) = slice_range heap from end ∷ pieces_of heap end ends

-- where the value of a row begins in the heap
abbrev pub place_of : List ℕ → ℕ → ℕ
place_of lens row = sum (take row lens)

-- the value of a row
abbrev pub value_at : List ℕ → List ℕ → ℕ → List ℕ
value_at heap lens row = slice_range heap (place_of lens row) (place_of lens (row + 1))

-- which piece a place of the heap is in: as many pieces come before it as end there or earlier
abbrev pub piece_of : List ℕ → ℕ → ℕ
piece_of ends place = count_by (λ end. nat_le end place) ends

-- how far into its piece a place is
abbrev pub offset_of : List ℕ → ℕ → ℕ
offset_of ends place = place - slice_index (0 ∷ ends) (piece_of ends place)

-- the view of the value of a row
abbrev pub view_at : ℕ → List ℕ → List ℕ → List ℕ → ℕ → List ℕ
view_at start heap lens ends row =
    view_of (value_at heap lens row) (start + piece_of ends (place_of lens row)) (offset_of ends (place_of lens row))

-- the buffers are the pieces of the maximal cut, numbered within u32, and there is one view a row, that of its value
pub record AreBuilt (start limit : ℕ) (heap lens : List ℕ) (buffers views : List (List ℕ)) : Type 0 where
  pub ends : List ℕ
  pub cut : IsMaximalCut limit lens ends
  pub pieces : buffers ≡ pieces_of heap 0 ends
  pub numbered : start + length ends ≤ 2 ^ 32
  pub one_each : length views ≡ length lens
  pub each : (row : ℕ) → row < length lens → slice_index_or views row [] ≡ view_at start heap lens ends row

-- whatever buffers come before them, the view of each row resolves, and this is its value
pub record ReadBack (start : ℕ) (value : ℕ → List ℕ) (buffers views : List (List ℕ)) : Type 0 where
  pub resolve : (before : List (List ℕ)) (row : ℕ) → length before ≡ start → row < length views
      → Resolves (before ++ buffers) (slice_index_or views row [])
  pub read : (before : List (List ℕ)) (row : ℕ) → length before ≡ start → row < length views
      → view_value (before ++ buffers) (slice_index_or views row []) ≡ value row

-- A heap holds values one after another. A cut divides it into pieces that end where values end.
-- `lens` are the values' lengths in bytes, and a cut is the list of its pieces' ends in the heap.
use Rattle.std.specs.Prelude.{◌≡◌, ℕ, ◌+◌, ◌-◌, ◌<◌, ◌≤◌, List, [], ◌∷◌, length, take, sum, slice_index}

-- some number of the values end at this place (none of them at the heap's start)
abbrev pub IsValueEnd : List ℕ → ℕ → Type 0
IsValueEnd lens place = (count : ℕ) × (place ≡ sum (take count lens))

-- pieces with these ends, one after another, lead from one place to another:
-- none is empty, none is longer than the limit, and each ends where a value ends
abbrev pub ArePieces : ℕ → List ℕ → ℕ → List ℕ → ℕ → Type 0
ArePieces limit lens from [] to = from ≡ to
ArePieces limit lens from (end ∷ ends) to = (from < end) × (end ≤ from + limit) × IsValueEnd lens end × ArePieces limit lens end ends to

-- no piece could have ended where a later value ends
abbrev pub AreLongest : ℕ → List ℕ → ℕ → List ℕ → Type 0
AreLongest limit lens from [] = Unit {0}
AreLongest limit lens from (end ∷ ends) =
    ((later : ℕ) → IsValueEnd lens later → end < later → from + limit < later) × AreLongest limit lens end ends

-- the pieces make up the whole heap
pub record IsCut (limit : ℕ) (lens ends : List ℕ) : Type 0 where
  pub pieces : ArePieces limit lens 0 ends (sum lens)

-- a cut whose every piece is the longest that can begin where it begins
pub record IsMaximalCut (limit : ℕ) (lens ends : List ℕ) : Type 0 where
  pub cut : IsCut limit lens ends
  pub longest : AreLongest limit lens 0 ends

-- a cut than which no cut has fewer pieces
pub record IsFewestCut (limit : ℕ) (lens ends : List ℕ) : Type 0 where
  pub cut : IsCut limit lens ends
  pub fewest : (others : List ℕ) → IsCut limit lens others → length ends ≤ length others

-- each piece but the last, together with the next value that is not empty, passes the limit
abbrev pub PassWithNext : ℕ → List ℕ → ℕ → List ℕ → Type 0
PassWithNext limit lens from [] = Unit {0}
PassWithNext limit lens from (end ∷ []) = Unit {0}
PassWithNext limit lens from (end ∷ next ∷ ends) =
    ((row : ℕ) → row < length lens → sum (take row lens) ≡ end → 0 < slice_index lens row
    → limit < (end - from) + slice_index lens row)
    × PassWithNext limit lens end (next ∷ ends)

-- Masks as runs, each a pair of a start and an end: the places from the start up to the end are true.
use Rattle.std.specs.Prelude.{◌≡◌, ◌≤◌, ◌<◌, ℕ, Bool, true, false, ◌&&◌, ◌||◌, List, [], ◌∷◌, map, length, take, slice_index_or, nat_le, nat_lt}
use Rattle.std.specs.List.{All, AllPairs, range_with_len}
use Rattle.vx_base.specs.Bits.{bool_at}

-- a place lies in a run
abbrev pub is_in_run : ℕ × ℕ → ℕ → Bool
is_in_run run k = nat_le run.0 k && nat_lt k run.1

-- a place lies in one of these runs
abbrev pub is_in_runs : List (ℕ × ℕ) → ℕ → Bool
is_in_runs [] k = false
is_in_runs (run ∷ runs) k = is_in_run run k || is_in_runs runs k

-- so many booleans, true in these runs
abbrev pub marked : ℕ → List (ℕ × ℕ) → List Bool
marked len runs = map (is_in_runs runs) (range_with_len 0 len)

-- runs up to a length: in order, none empty, with a place between any two
pub record AreRuns (len : ℕ) (runs : List (ℕ × ℕ)) : Type 0 where
  pub filled : All (λ run. run.0 < run.1) runs
  pub within : All (λ run. run.1 ≤ len) runs
  pub apart : AllPairs (λ run next. run.1 < next.0) runs

-- up to an edge these are the runs, and from it up to a place all is alike: where that is true, a run begins apart from them, and
-- else one may begin at the place
pub record IsEdge (edge place : ℕ) (is_true : Bool) (runs : List (ℕ × ℕ)) : Type 0 where
  pub ordered : edge ≤ place
  pub apart : AreRuns edge runs
  pub begun : is_true ≡ true → (edge < place) × All (λ run. run.1 < edge) runs
  pub ended : is_true ≡ false → All (λ run. run.1 < place) runs

-- the places from one up to another that are true have come to the runs
abbrev pub AreAdded : List Bool → ℕ → ℕ → List (ℕ × ℕ) → List (ℕ × ℕ) → Type 0
AreAdded bits start end old new = (k : ℕ) → is_in_runs new k ≡ (is_in_runs old k || (is_in_run (start, end) k && bool_at bits k))

-- the runs before a place end by a row, and the one at the place, where there is one, ends past it
pub record IsFirstPast (runs : List (ℕ × ℕ)) (i at : ℕ) : Type 0 where
  pub bound : at ≤ length runs
  pub before : All (λ run. run.1 ≤ i) (take at runs)
  pub past : at < length runs → i < (slice_index_or runs at (0, 0)).1

-- from a row up to another all lie in runs, or none does
pub record IsStretch (runs : List (ℕ × ℕ)) (run start end : ℕ) (is_true : Bool) : Type 0 where
  pub bound : run ≤ length runs
  pub alike : (k : ℕ) → start ≤ k → k < end → is_in_runs runs k ≡ is_true

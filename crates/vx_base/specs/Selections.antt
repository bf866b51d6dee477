-- Rows that are picked by runs of them.
use Rattle.std.specs.Prelude.{◌-◌, ◌+◌, ◌*◌, ◌++◌, ℕ, List, slice_range, slice_index_or}
use Rattle.std.specs.List.{flat_map, range_with_len}

-- the positions of a run, from its start up to its end
abbrev pub run_positions : ℕ × ℕ → List ℕ
run_positions run = range_with_len run.0 (run.1 - run.0)

-- the item at a position, d where there is none
abbrev pub item_of_position : {X : Type 0} → X → List X → ℕ → X
item_of_position d items k = slice_index_or items k d

-- the bytes of the number at a position
abbrev pub bytes_of_position : ℕ → List ℕ → ℕ → List ℕ
bytes_of_position width bytes k = slice_range bytes (k * width) (k * width + width)

-- the positions of the elements of list k, where a list has size elements
abbrev pub list_positions : ℕ → ℕ → List ℕ
list_positions size k = range_with_len (k * size) size

-- bytes, and after them those of numbers that are still held in a block
abbrev pub held : List ℕ → List (List ℕ) → List ℕ
held bytes block = bytes ++ flat_map (λ number. number) block

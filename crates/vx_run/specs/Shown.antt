-- What is read of an array to be printed, and what printing does to an output.
use Rattle.std.specs.Prelude.{◌≡◌, ◌+◌, ◌<◌, ℕ, List, length, slice_index, Option}
use Rattle.std.specs.Io.KnownBytes.{Appends}
use Rattle.vx_base.specs.Rows.{count_in}
use Rattle.vx_tree.specs.Tree.{Tree}
use Rattle.vx_tree.specs.Meaning.{row_at}

-- the counts of n rows, from one on
pub record AreCountsFrom (t : Tree) (start n : ℕ) (counts : List ℕ) : Type 0 where
  pub len : length counts ≡ n
  pub each : (i : ℕ) → i < n → slice_index counts i ≡ count_in (row_at t (start + i))

-- the known bytes of an output stay at the front, and some may follow
abbrev pub Grows : Option (List ℕ) → Option (List ℕ) → Type 0
Grows before after = (bytes : List ℕ) × Appends before after bytes

-- Lists that end within their elements.
use Rattle.std.proofs.Common.{ℕ, ◌+◌, ◌<◌, ◌≤◌, ◌≡◌}
use Rattle.std.specs.Prelude.{pos}
use Rattle.vx_base.specs.Rows.{Row, whole, count_in}
use Rattle.vx_tree.specs.Meaning.{row_at}
use Rattle.vx_tree.specs.Tree.{Tree}

-- an offset and a size are counts, and the list ends within so many elements
pub record EndsWithin (len : ℕ) (o s : Row) : Type 0 where
  pub offset : o ≡ whole (pos (count_in o))
  pub size : s ≡ whole (pos (count_in s))
  pub within : count_in o + count_in s ≤ len

-- so it is of the first lists
abbrev pub EndWithin : ℕ → Tree → Tree → ℕ → Type 0
EndWithin len o s n = (i : ℕ) → i < n → EndsWithin len (row_at o i) (row_at s i)

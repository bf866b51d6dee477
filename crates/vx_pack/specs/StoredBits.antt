-- Bits that tell something of each row.
use Rattle.std.specs.Prelude.{◌≡◌, ◌&&◌, ℕ, Bool, List, length}
use Rattle.vx_base.specs.Bits.{bool_at}
use Rattle.vx_base.specs.Rows.{Row, is_present, truth_of}
use Rattle.vx_tree.specs.Meaning.{row_at, tree_len}
use Rattle.vx_tree.specs.Tree.{Tree}

-- one bit a row, which is what a function says of it
pub record TellsRows (f : Row → Bool) (t : Tree) (bits : List Bool) : Type 0 where
  pub len : length bits ≡ tree_len t
  pub rows : (i : ℕ) → f (row_at t i) ≡ bool_at bits i

-- one bit a row, which is its truth value where it is not null
pub record AreStoredTruths (t : Tree) (bits : List Bool) : Type 0 where
  pub len : length bits ≡ tree_len t
  pub rows : (i : ℕ) → truth_of (row_at t i) ≡ (is_present (row_at t i) && bool_at bits i)

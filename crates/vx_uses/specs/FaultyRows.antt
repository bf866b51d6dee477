-- Rows that make foreign parts faulty.
use Rattle.std.specs.Prelude.{◌≡◌, ◌<◌, ◌+◌, ℕ, ℤ, pos, negsuc, Option, Some, None}
use Rattle.vx_base.specs.Refusals.{out_of_bounds}
use Rattle.vx_base.specs.Rows.{whole}
use Rattle.vx_tree.specs.Tree.{Tree}
use Rattle.vx_tree.specs.Meaning.{tree_len, row_at}
use Rattle.vx_tree.specs.Faults.{index_fault}

-- the first of n rows that has something, none where no row has it
abbrev pub IsFirstWith : (ℕ → Type 0) → ℕ → Option ℕ → Type 0
IsFirstWith Has n None = (i : ℕ) → i < n → ¬ Has i
IsFirstWith Has n (Some row) = (row < n) × Has row × ((i : ℕ) → i < row → ¬ Has i)

-- a list of this offset and size, neither of them negative, ends there
abbrev pub EndsAt : ℤ → ℤ → ℕ → Type 0
EndsAt (pos offset) (pos size) end = offset + size ≡ end
EndsAt (pos offset) (negsuc size) end = ⊥
EndsAt (negsuc offset) size end = ⊥

-- of codes into so many values the first faulty row, whose code names no value
pub record IsFirstFaultyCode (count : ℕ) (codes : Tree) (code row : ℕ) : Type 0 where
  pub in_bounds : row < tree_len codes
  pub has : row_at codes row ≡ whole (pos code)
  pub stands : index_fault count row (row_at codes row) ≡ Some (out_of_bounds code)
  pub first : (i : ℕ) → i < row → index_fault count i (row_at codes i) ≡ None

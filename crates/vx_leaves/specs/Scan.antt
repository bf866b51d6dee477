-- Where a scan of a dictionary's codes ends, which reads them in blocks of 2,048.
use Rattle.std.specs.Prelude.{◌≡◌, ◌⊎◌, ◌<◌, ◌%◌, ℕ, Some}
use Rattle.vx_base.specs.Rows.{position_in}
use Rattle.vx_tree.specs.Tree.{Tree}
use Rattle.vx_tree.specs.Meaning.{tree_len, row_at}
use Rattle.vx_leaves.specs.Dictionaries.{codes_in, values_in}

-- a scan of len codes may end before code n: after whole blocks, not at the last code, and all is found by then
abbrev pub MayEnd : ℕ → (ℕ → Type 0) → ℕ → Type 0
MayEnd len Found n = (0 < n) × (n % 2048 ≡ 0) × (n < len) × Found n

-- the least place at which the scan may end, or else the number of codes
pub record IsScanEnd (len : ℕ) (Found : ℕ → Type 0) (end : ℕ) : Type 0 where
  pub there : (end ≡ len) ⊎ MayEnd len Found end
  pub least : (n : ℕ) → n < end → ¬ (MayEnd len Found n)

-- each place below count is named by a valid code before code n
abbrev pub NameAllBefore : Tree → ℕ → ℕ → Type 0
NameAllBefore codes count n = (j : ℕ) → j < count → (i : ℕ) × (i < n) × (position_in (row_at codes i) ≡ Some j)

-- each value of a dictionary is named by a valid code before code n
abbrev pub ReferencesAllBefore : Tree → ℕ → Type 0
ReferencesAllBefore t n = NameAllBefore (codes_in t) (tree_len (values_in t)) n

-- the end of the scan of a dictionary
abbrev pub EndsScan : Tree → ℕ → Type 0
EndsScan t end = IsScanEnd (tree_len (codes_in t)) (ReferencesAllBefore t) end

-- Rows of a kind where none is given.
use Rattle.std.specs.Prelude.{◌≡◌, ◌<◌, ℕ, List}
use Rattle.std.specs.List.{AllZip}
use Rattle.vx_base.specs.declared.dtypes.DType.{DType}
use Rattle.vx_base.specs.DTypes.{dtype_meaning}
use Rattle.vx_base.specs.Kinds.{Kind}
use Rattle.vx_base.specs.Defaults.{default_row}
use Rattle.vx_tree.specs.Tree.{Tree}
use Rattle.vx_tree.specs.Meaning.{tree_len, kind_of, row_at}

-- the default row of a kind, n times
pub record AreDefaults (k : Kind) (n : ℕ) (t : Tree) : Type 0 where
  pub len : tree_len t ≡ n
  pub kind : kind_of t ≡ k
  pub rows : (i : ℕ) → i < n → row_at t i ≡ default_row k

-- the same of each data type
abbrev pub AreDefaultColumns : List DType → ℕ → List Tree → Type 0
AreDefaultColumns ds n ts = AllZip (λ d t. AreDefaults (dtype_meaning d) n t) ds ts

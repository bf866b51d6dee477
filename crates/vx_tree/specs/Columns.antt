-- Columns, one beside another.
use Rattle.std.specs.Prelude.{◌≡◌, ◌<◌, ◌≤◌, ◌+◌, ℕ, List, [], ◌∷◌, Option, length, slice_index}
use Rattle.vx_base.specs.declared.scalar_value.ScalarValue.{ScalarValue}
use Rattle.vx_base.specs.ValueRows.{row_under}
use Rattle.vx_tree.specs.Tree.{Trees, no_trees, tree}
use Rattle.vx_tree.specs.Meaning.{tree_len, kind_of, kinds_of, row_at, fields_at}
use Rattle.vx_tree.specs.Formed.{AllLen, column_count}
use Rattle.vx_tree.specs.Plain.{ArePlain}
use Rattle.vx_tree.specs.Needs.{HaveNeedsOf}
use Rattle.vx_tree.specs.Operations.{AreBelow}

-- each column has n rows or more
abbrev pub AllReach : ℕ → Trees → Type 0
AllReach n no_trees = Unit {0}
AllReach n (tree t ts) = (n ≤ tree_len t) × AllReach n ts

-- each position is below the length of each column
abbrev pub AllHave : List ℕ → Trees → Type 0
AllHave ps no_trees = Unit {0}
AllHave ps (tree t ts) = AreBelow (tree_len t) ps × AllHave ps ts

-- as many columns of the same kinds, of n rows each
pub record AreAlike (ts : Trees) (n : ℕ) (us : Trees) : Type 0 where
  pub count : column_count us ≡ column_count ts
  pub kinds : kinds_of us ≡ kinds_of ts
  pub lens : AllLen n us

-- columns of n rows, whose rows i are those at the positions f i
pub record AreRowsAt (ts : Trees) (f : ℕ → ℕ) (n : ℕ) (us : Trees) : Type 0 where
  pub alike : AreAlike ts n us
  pub rows : (names : List (List ℕ)) (i : ℕ) → i < n → fields_at us names i ≡ fields_at ts names (f i)

-- n rows of each column, from a start on, plain where the columns are plain
pub record AreSlices (ts : Trees) (start n : ℕ) (us : Trees) : Type 0 where
  pub rows_at : AreRowsAt ts (λ i. start + i) n us
  pub plain : ArePlain ts → ArePlain us
  pub needs : HaveNeedsOf ts us

-- the rows of each column at positions, plain where the columns are plain
pub record AreSelected (ts : Trees) (ps : List ℕ) (us : Trees) : Type 0 where
  pub rows_at : AreRowsAt ts (slice_index ps) (length ps) us
  pub plain : ArePlain ts → ArePlain us
  pub needs : HaveNeedsOf ts us

-- the values of the rows i of columns, one a column
abbrev pub AreFields : Trees → ℕ → List (Option ScalarValue) → Type 0
AreFields no_trees i [] = Unit {0}
AreFields (tree t ts) i (v ∷ vs) = (row_under (kind_of t) v ≡ row_at t i) × AreFields ts i vs
AreFields _ i _ = ⊥

-- Where a row stands, once the codes of dictionaries are followed.
use Rattle.std.specs.Prelude.{◌≡◌, ◌<◌, ◌≤◌, ℕ, true, false, Option, Some, None}
use Rattle.vx_base.specs.Kinds.{or_nullable}
use Rattle.vx_base.specs.Rows.{null}
use Rattle.vx_tree.specs.Layouts.{is_dictionary}
use Rattle.vx_tree.specs.Meaning.{kind_of, row_at, tree_len}
use Rattle.vx_tree.specs.Tree.{Tree, depth}
use Rattle.vx_pack.specs.declared.places.Place.{Place}

-- row i of an array is row j of another one that is no dictionary, no deeper, and of the same kind but for null
pub record IsPlace (t : Tree) (i : ℕ) (u : Tree) (j : ℕ) : Type 0 where
  pub row : row_at t i ≡ row_at u j
  pub within : j < tree_len u
  pub kind : or_nullable true (kind_of t) ≡ or_nullable true (kind_of u)
  pub depth : depth u ≤ depth t
  pub coded : is_dictionary u ≡ false

-- a row stands at a place, or it is null
abbrev pub IsPlaceOf : Tree → ℕ → Option Place → Type 0
IsPlaceOf t i None = row_at t i ≡ null
IsPlaceOf t i (Some p) = IsPlace t i p.array.now p.row

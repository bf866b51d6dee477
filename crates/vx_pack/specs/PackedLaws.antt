-- Laws of the packed form.
use Rattle.std.specs.Prelude.{◌≡◌, ◌↔◌, List}
use Rattle.std.specs.List.{All}
use Rattle.vx_base.specs.Kinds.{Kind, Fits}
use Rattle.vx_base.specs.Rows.{Row}
use Rattle.vx_tree.specs.Meaning.{kind_of, rows}
use Rattle.vx_tree.specs.Tree.{Tree}
use Rattle.vx_pack.specs.Packed.{IsPacked, IsTooLarge}

-- rows of a kind have one packed form
abbrev pub PackedIsOne : Type 0
PackedIsOne = (k : Kind) (rs : List Row) (t u : Tree) → IsPacked k rs t → IsPacked k rs u → t ≡ u

-- it is of that kind, and its rows are these
pub record HasRows (k : Kind) (rs : List Row) (t : Tree) : Type 0 where
  pub kind : kind_of t ≡ k
  pub rows : rows t ≡ rs

-- what rows that fit a kind pack to is of that kind and has these rows
abbrev pub PackedKeepsRows : Type 0
PackedKeepsRows = (k : Kind) (rs : List Row) (t : Tree) → All (Fits k) rs → IsPacked k rs t → HasRows k rs t

-- packed forms are the same exactly where kinds and rows are
abbrev pub PackedTellsRows : Type 0
PackedTellsRows =
    (k l : Kind) (rs ss : List Row) (t u : Tree) → All (Fits k) rs → All (Fits l) ss → IsPacked k rs t → IsPacked l ss u
    → (t ≡ u) ↔ ((k ≡ l) × (rs ≡ ss))

-- packed twice is packed once
abbrev pub PackedOnce : Type 0
PackedOnce = (k : Kind) (rs : List Row) (t u : Tree) → All (Fits k) rs → IsPacked k rs t → IsPacked (kind_of t) (rows t) u → u ≡ t

-- what has a packed form is not too large for one
abbrev pub PackedIsHeld : Type 0
PackedIsHeld = (k : Kind) (rs : List Row) (t : Tree) → IsPacked k rs t → IsTooLarge k rs → ⊥

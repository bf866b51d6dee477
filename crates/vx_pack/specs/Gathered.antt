-- Values of rows that are put into a column, one piece after another.
use Rattle.std.specs.Prelude.{◌≡◌, ℕ, Bool, true, List, [], length, map}
use Rattle.std.specs.List.{All}
use Rattle.vx_base.specs.Kinds.{Kind, booleans, integers, is_nullable_kind, Fits}
use Rattle.vx_base.specs.Rows.{Row, is_present, truth_of}
use Rattle.vx_text.specs.Filling.{filling}
use Rattle.vx_pack.specs.Packed.{bytes_of_numbers, has_bytes, number_or_zero}
use Rattle.vx_pack.specs.StoredTexts.{ArePushed, bytes_or_empty, filled}
use Rattle.vx_pack.specs.declared.gathered.Gathered.{Gathered}
use Rattle.vx_pack.specs.declared.gathered.Leaf.{Leaf}
use Rattle.vx_pack.specs.declared.gathered.Leaf.TheVariants as leaf

-- a kind of truth values, of numbers, of texts or of byte lists
abbrev pub is_leaf : Kind → Bool
is_leaf (booleans n) = true
is_leaf (integers t n) = true
is_leaf k = has_bytes k

-- the values of rows of a kind, false, 0 or no bytes where they are null
abbrev pub AreValues : Kind → List Row → Leaf → Type 0
AreValues k rs (leaf.Truths bits) = ((n : Bool) × (k ≡ booleans n)) × (bits ≡ map truth_of rs)
AreValues k rs (leaf.Numbers t bytes) =
    ((n : Bool) × (k ≡ integers t n)) × (bytes.items ≡ bytes_of_numbers t (map number_or_zero rs))
AreValues k rs (leaf.Texts f) =
    (has_bytes k ≡ true) × ArePushed (filling [] [] []) (map bytes_or_empty rs) (filled f)

-- the same, and which rows are there, where null may stand
pub record AreGathered (k : Kind) (rs : List Row) (g : Gathered) : Type 0 where
  pub values : AreValues k rs g.leaf
  pub present : is_nullable_kind k ≡ true → g.present ≡ map is_present rs
  pub fits : All (Fits k) rs

-- so many rows of a kind, none of them null
pub record AreThere (k : Kind) (n : ℕ) (rs : List Row) : Type 0 where
  pub count : length rs ≡ n
  pub fits : All (Fits k) rs
  pub present : All (λ r. is_present r ≡ true) rs

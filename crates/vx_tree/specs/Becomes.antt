-- The arrays that truth values and numbers become, of which no row is null.
use Rattle.std.specs.Prelude.{◌≡◌, ◌==◌, ℕ, ℤ, Bool, true, false, List, length, count_by, if◌then◌else◌}
use Rattle.vx_base.specs.declared.ptypes.PType.{PType}
use Rattle.vx_base.specs.Integers.{numbers}
use Rattle.vx_base.specs.Kinds.{booleans}
use Rattle.vx_base.specs.Rows.{boolean}
use Rattle.vx_tree.specs.Tree.{Tree, bools, primitive, constant, non_nullable}

-- a constant where all are alike, else the bits
abbrev pub array_of_mask : List Bool → Tree
array_of_mask mask =
    if count_by (λ b. b) mask == length mask then constant (booleans false) (boolean true) (length mask)
    else (if count_by (λ b. b) mask == 0 then constant (booleans false) (boolean false) (length mask) else bools 0 mask non_nullable)

-- an array of these numbers, none of them null, in their bytes
pub record AreNumbers (t : PType) (zs : List ℤ) (a : Tree) : Type 0 where
  pub bytes : List ℕ
  pub tree : a ≡ primitive t bytes non_nullable
  pub same : numbers t bytes ≡ zs

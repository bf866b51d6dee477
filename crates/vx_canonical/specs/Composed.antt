-- Concatenations of concatenations.
use Rattle.std.specs.Prelude.{◌≡◌, List, ◌∷◌, ◌++◌, None}
use Rattle.vx_base.specs.Kinds.{Kind}
use Rattle.vx_tree.specs.Tree.{Tree}
use Rattle.vx_tree.specs.Extents.{Extent, joined_extent}
use Rattle.vx_canonical.specs.Concatenated.{IsConcatenated, concat_fault}

-- arrays concatenated in two steps are refused as all of them at once
abbrev pub ConcatsCompose : Type 0
ConcatsCompose = (ts us : List Tree) (r : Tree) → concat_fault ts ≡ None → IsConcatenated ts r
    → concat_fault (r ∷ us) ≡ concat_fault (ts ++ us)

-- and count as they do
abbrev pub ExtentsCompose : Type 0
ExtentsCompose = (k : Kind) (xs ys : List Extent) → joined_extent k (joined_extent k xs ∷ ys) ≡ joined_extent k (xs ++ ys)

-- Slices of slices, selections of selections, and what becomes of a dictionary's values.
use Rattle.std.specs.Prelude.{◌≡◌, ◌≤◌, ◌+◌, ℕ, true, List, length, map, slice_index}
use Rattle.vx_tree.specs.Tree.{Tree}
use Rattle.vx_tree.specs.Layouts.{is_dictionary, values_in}
use Rattle.vx_tree.specs.Shapes.{Shape, shape_of}
use Rattle.vx_tree.specs.Operations.{IsSlice, IsSelected, AreBelow}

-- rows of a slice are a slice
abbrev pub SlicesCompose : Type 0
SlicesCompose = (t r s : Tree) (start n from m : ℕ) → IsSlice t start n r → IsSlice r from m s → from + m ≤ n
    → IsSlice t (start + from) m s

-- rows selected of a selection are the rows at the positions that are picked
abbrev pub SelectionsCompose : Type 0
SelectionsCompose = (t r s : Tree) (ps qs : List ℕ) → IsSelected t ps r → IsSelected r qs s → AreBelow (length ps) qs
    → IsSelected t (map (slice_index ps) qs) s

-- a dictionary whose shape becomes another is a dictionary of the same values
abbrev pub KeepsValues : (Shape → Shape) → Type 0
KeepsValues becomes = (t r : Tree) → is_dictionary t ≡ true → shape_of r ≡ becomes (shape_of t)
    → (is_dictionary r ≡ true) × (values_in r ≡ values_in t)

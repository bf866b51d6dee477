-- The elements of the valid rows of a list view, in runs.
use Rattle.std.specs.Prelude.{◌≡◌, ◌<◌, ◌+◌, ◌^◌, ℕ, List, length, slice_index, None}
use Rattle.std.specs.List.{flat_map}
use Rattle.vx_base.specs.Integers.{numbers}
use Rattle.vx_base.specs.Selections.{run_positions}
use Rattle.vx_base.specs.declared.ptypes.PType.{PType}
use Rattle.vx_tree.specs.Tree.{Tree}
use Rattle.vx_tree.specs.Meaning.{tree_len}
use Rattle.vx_tree.specs.Faults.{take_overflow}
use Rattle.vx_tree.specs.Operations.{AreBelow}
use Rattle.vx_lists.specs.ListViews.CountBytes.{counts_of, AreCountBytes}
use Rattle.vx_lists.specs.ListViews.{elements_of, total_of, valid_positions_of}
use Rattle.vx_lists.specs.ListViews.Faults.{rebuild_overflow}

-- bytes of offsets, and of as many sizes, where each list ends below 2^64
pub record AreListBytes (o : PType) (offsets : List ℕ) (s : PType) (sizes : List ℕ) : Type 0 where
  pub offsets_are : AreCountBytes o offsets
  pub sizes_are : AreCountBytes s sizes
  pub same_len : length (numbers s sizes) ≡ length (numbers o offsets)
  pub ends_fit : (i : ℕ) → i < length (numbers o offsets) → slice_index (counts_of o offsets) i + slice_index (counts_of s sizes) i < 2 ^ 64

-- its elements, and that those of its valid rows lie within them and can be taken, where nothing refuses that
pub record AreElementsToTake (t e : Tree) : Type 0 where
  pub elements : e ≡ elements_of t
  pub within : AreBelow (tree_len e) (valid_positions_of t)
  pub count : length (valid_positions_of t) ≡ total_of t
  pub countable : rebuild_overflow t ≡ None → take_overflow e (length (valid_positions_of t)) ≡ None

-- the positions of its elements, in runs: those of its valid rows, one row after another
pub record ArePlannedRuns (t e : Tree) (found : List (ℕ × ℕ)) : Type 0 where
  pub elements : AreElementsToTake t e
  pub runs : flat_map run_positions found ≡ valid_positions_of t

-- the same, one by one
pub record ArePlannedPositions (t e : Tree) (found : List ℕ) : Type 0 where
  pub elements : AreElementsToTake t e
  pub positions : found ≡ valid_positions_of t

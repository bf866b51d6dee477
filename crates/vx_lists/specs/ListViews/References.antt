-- Which elements the lists of a list view lie in, and the list view over a part of the elements.
use Rattle.std.specs.Prelude.{◌≡◌, ◌↔◌, ◌⊎◌, ◌<◌, ◌≤◌, ◌+◌, ◌-◌, ◌*◌, ◌/◌, ◌==◌, ℕ, Bool, true, List, length, map}
use Rattle.std.specs.Prelude.{Option, Some, None, if◌then◌else◌}
use Rattle.std.specs.Prelude.{slice_index, slice_range}
use Rattle.vx_base.specs.Bits.{bool_at}
use Rattle.vx_base.specs.Refusals.{Refusal, empty_input}
use Rattle.vx_base.specs.Rows.{count_in}
use Rattle.vx_tree.specs.Tree.{Tree}
use Rattle.vx_tree.specs.Meaning.{tree_len, kind_of, row_at, rows}
use Rattle.vx_tree.specs.Needs.{HasNeedsOf}
use Rattle.vx_tree.specs.Shapes.{shape_of, sliced_shape}
use Rattle.vx_lists.specs.ListViews.{is_list_view, elements_of, offsets_of, sizes_of, validity_of, flag_of, counts_in}

-- where list i of a list view starts, and where it ends; a null row has both
abbrev pub start_of : Tree → ℕ → ℕ
start_of t i = count_in (row_at (offsets_of t) i)

abbrev pub end_of : Tree → ℕ → ℕ
end_of t i = start_of t i + count_in (row_at (sizes_of t) i)

-- ---- the elements that are referenced

-- element k lies in one of the first n lists, by their starts and ends
abbrev pub LiesIn : (ℕ → ℕ) → (ℕ → ℕ) → ℕ → ℕ → Type 0
LiesIn starts ends n k = (i : ℕ) × (i < n) × (starts i ≤ k) × (k < ends i)

-- of n elements, just those that lie in one of the first m lists are marked
pub record AreMarked (starts ends : ℕ → ℕ) (m n : ℕ) (mask : List Bool) : Type 0 where
  pub len : length mask ≡ n
  pub each : (k : ℕ) → k < n → (bool_at mask k ≡ true) ↔ LiesIn starts ends m k

-- just the elements that lie in some list are marked, null rows counted
abbrev pub MarksReferenced : Tree → List Bool → Type 0
MarksReferenced t mask = AreMarked (start_of t) (end_of t) (tree_len t) (tree_len (elements_of t)) mask

-- where runs of blocks of 4096 elements end, of which one begins with each whole block of n elements
pub record AreBlockRuns (n : ℕ) (runs : List ℕ) : Type 0 where
  pub len : length runs ≡ n / 4096
  pub within : (b : ℕ) → slice_index runs b * 4096 ≤ n

-- element k lies in one of the first n runs of blocks
abbrev pub LiesInRuns : List ℕ → ℕ → ℕ → Type 0
LiesInRuns runs n k = LiesIn (λ b. b * 4096) (λ b. slice_index runs b * 4096) n k

-- element k is marked, or lies in a run of blocks
abbrev pub IsCovered : List Bool → List ℕ → ℕ → Type 0
IsCovered mask runs k = (bool_at mask k ≡ true) ⊎ LiesInRuns runs (length runs) k

-- the least of n starts and the greatest of n ends
pub record AreBounds (starts ends : ℕ → ℕ) (n least greatest : ℕ) : Type 0 where
  pub below : (i : ℕ) → i < n → least ≤ starts i
  pub least_is : (i : ℕ) × (i < n) × (starts i ≡ least)
  pub above : (i : ℕ) → i < n → ends i ≤ greatest
  pub greatest_is : (i : ℕ) × (i < n) × (ends i ≡ greatest)

-- the bounds of the elements of all lists, null rows and empty lists counted
abbrev pub BoundReferenced : Tree → ℕ → ℕ → Type 0
BoundReferenced t start end = AreBounds (start_of t) (end_of t) (tree_len t) start end

-- without rows there are no bounds
abbrev pub bounds_fault : Tree → Option Refusal
bounds_fault t = if tree_len t == 0 then Some empty_input else None

-- ---- a list view over a part of its elements

-- the same lists, each lying so much lower among the elements from start up to end: sizes, validity, types and flag stay
pub record IsTrimmed (t : Tree) (start end : ℕ) (r : Tree) : Type 0 where
  pub is_view : is_list_view r ≡ true
  pub elements : rows (elements_of r) ≡ slice_range (rows (elements_of t)) start end
  pub elements_shape : shape_of (elements_of r) ≡ sliced_shape (shape_of (elements_of t))
  pub elements_need : HasNeedsOf (elements_of t) (elements_of r)
  pub offsets : counts_in (offsets_of r) ≡ map (λ offset. offset - start) (counts_in (offsets_of t))
  pub offsets_kind : kind_of (offsets_of r) ≡ kind_of (offsets_of t)
  pub sizes : sizes_of r ≡ sizes_of t
  pub validity : validity_of r ≡ validity_of t
  pub flag : flag_of r ≡ flag_of t
  pub kind : kind_of r ≡ kind_of t
  pub same_rows : rows r ≡ rows t

-- the same lists over just the range of elements that they lie in
abbrev pub IsTrimmedToBounds : Tree → Tree → Type 0
IsTrimmedToBounds t r = (start : ℕ) × (end : ℕ) × BoundReferenced t start end × IsTrimmed t start end r

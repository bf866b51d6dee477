-- What the callers of this crate conclude.
use Rattle.std.specs.Prelude.{◌≡◌, ◌<◌, ◌≤◌, ◌+◌, ◌-◌, ◌⊎◌, ◌++◌, ◌∷◌, [], ℕ, ℤ, negsuc, int_lt, Bool, true, false, List}
use Rattle.std.specs.Prelude.{length, map, sum, Option, Some, None, slice_index, slice_range, if◌then◌else◌}
use Rattle.vx_base.specs.declared.errors.VortexError.{VortexError}
use Rattle.vx_base.specs.declared.errors.VortexError.TheVariants.{Negative, OutOfBounds}
use Rattle.vx_base.specs.Kinds.{Kind, lists, is_integers, is_nullable_kind}
use Rattle.vx_base.specs.Refusals.{Refusal, IsMemoryOr, mismatched_types, negative, out_of_bounds, or_else}
use Rattle.vx_base.specs.Rows.{Row, is_present, list_in, number_in}
use Rattle.vx_tree.specs.Tree.{Tree, list_view, non_nullable}
use Rattle.vx_tree.specs.Faults.{slice_fault, indices_fault}
use Rattle.vx_tree.specs.Meaning.{tree_len, kind_of, row_at}
use Rattle.vx_lists.specs.ListViews.Faults.{list_view_fault, list_row_fault, whole_at}
use Rattle.vx_lists.specs.ListViews.Layout.{size_of, starts_from}
use Rattle.vx_lists.specs.ListViews.{counts_in, list_rows, offsets_of, sizes_of}
use Rattle.vx_uses.specs.declared.reader.Lists.{Lists}
use Rattle.vx_uses.specs.declared.reader.Lists.TheVariants.{Read, NegativeRow, EndsPast, Refused}

-- a number below 0
abbrev pub IsNegative : ℤ → Type 0
IsNegative z = (n : ℕ) × (z ≡ negsuc n)

-- the first faulty row of offsets and sizes over so many elements, with its fault
pub record IsFirstFault (count : ℕ) (o s : Tree) (row : ℕ) (fault : Refusal) : Type 0 where
  pub in_bounds : row < tree_len o
  pub stands : list_row_fault count row (whole_at o row) (whole_at s row) ≡ Some fault
  pub first : (i : ℕ) → i < row → list_row_fault count i (whole_at o i) (whole_at s i) ≡ None

-- an error that names neither a negative row nor where a list ends past the elements
abbrev pub NamesNoRow : VortexError → Type 0
NamesNoRow (Negative row) = ⊥
NamesNoRow (OutOfBounds index len) = ⊥
NamesNoRow _ = Unit {0}

-- what is told of the parts is so: they make this list view; or the first of all their faults is that of the first faulty
-- row, which is negative, or ends past the elements; or it is another, or memory was refused
abbrev pub TellsFault : Tree → Tree → Tree → Lists → Type 0
TellsFault e o s (Read made) = (made ≡ list_view e o s non_nullable false) × (list_view_fault e o s non_nullable ≡ None)
TellsFault e o s (NegativeRow row) =
    (list_view_fault e o s non_nullable ≡ Some (negative row)) × IsFirstFault (tree_len e) o s row (negative row)
    × (IsNegative (whole_at o row) ⊎ IsNegative (whole_at s row))
TellsFault e o s (EndsPast end) =
    (list_view_fault e o s non_nullable ≡ Some (out_of_bounds end)) × ((row : ℕ) × IsFirstFault (tree_len e) o s row (out_of_bounds end))
TellsFault e o s (Refused refusal) = IsMemoryOr (list_view_fault e o s non_nullable) refusal × NamesNoRow refusal

-- ---- pages

-- why a page of a column is not put in another order: its range, then an order that is of no integers, then the first row
-- of the order that is no position of the page
abbrev pub page_fault : Tree → ℕ → ℕ → Tree → Option Refusal
page_fault column start end order =
    or_else (slice_fault (tree_len column) start end)
    (if is_integers (kind_of order) then indices_fault (end - start) order else Some mismatched_types)

-- a number, where there is one, above a bound
abbrev pub exceeds : ℤ → Option ℤ → Bool
exceeds bound None = false
exceeds bound (Some number) = int_lt bound number

-- a row that is a number above a bound
abbrev pub is_above : ℤ → Row → Bool
is_above bound row = exceeds bound (number_in row)

-- ---- lists by offsets alone

-- the offsets of lists of these sizes that lie one after another, the first from `start` on: where each starts, and then
-- where the last one ends
abbrev pub list_offsets : ℕ → List ℕ → List ℕ
list_offsets start sizes = starts_from start sizes ++ (start + sum sizes) ∷ []

-- where the first list of a list view starts, 0 where it has none
abbrev pub first_start : Tree → ℕ
first_start t = slice_index (counts_in (offsets_of t)) 0

-- the offsets of a list view's lists, by whether it is flagged: as they lie, else with no elements of null lists
abbrev pub offsets_by : Bool → Tree → List ℕ
offsets_by true t = list_offsets (first_start t) (counts_in (sizes_of t))
offsets_by false t = list_offsets 0 (map size_of (list_rows t))

-- lists of items of a kind
abbrev pub AreListsOf : Kind → Kind → Type 0
AreListsOf item k = k ≡ lists item (is_nullable_kind k)

-- offsets, one more than there are lists, that do not fall and do not pass the elements: a list that is not null is the
-- elements from its offset up to the next one
pub record AreListOffsets (t : Tree) (elements : List Row) (offsets : List ℕ) : Type 0 where
  pub len : length offsets ≡ tree_len t + 1
  pub rising : (i : ℕ) → i < tree_len t → slice_index offsets i ≤ slice_index offsets (i + 1)
  pub within : slice_index offsets (tree_len t) ≤ length elements
  pub each : (i : ℕ) → i < tree_len t → is_present (row_at t i) ≡ true
      → list_in (row_at t i) ≡ Some (slice_range elements (slice_index offsets i) (slice_index offsets (i + 1)))

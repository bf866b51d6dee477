-- What steps append to a list of arrays, and why a step is refused.
use Rattle.std.specs.Prelude.{◌≡◌, ◌+◌, ◌-◌, ◌++◌, ◌⊎◌, ◌<◌, ◌≤◌, ℕ, Bool, true, false, List, [], ◌∷◌, length, take, map}
use Rattle.std.specs.Prelude.{slice_range, slice_get, slice_index_or, Option, Some, None, IsSomeAnd, if◌then◌else◌}
use Rattle.std.specs.List.{flat_map, remove}
use Rattle.vx_base.specs.declared.errors.VortexError.{VortexError}
use Rattle.vx_base.specs.declared.errors.VortexError.TheVariants.{Memory}
use Rattle.vx_base.specs.Fields.{place_of_name}
use Rattle.vx_base.specs.Kinds.{Kind, booleans, integers, is_nullable_kind, or_nullable}
use Rattle.vx_base.specs.Refusals.{Refusal, mismatched_types, IsMemoryOr, or_else}
use Rattle.vx_base.specs.Rows.{Row}
use Rattle.vx_base.specs.Trues.{trues}
use Rattle.vx_tree.specs.Tree.{Tree, bools, non_nullable, by_array}
use Rattle.vx_tree.specs.Meaning.{tree_len, kind_of, rows}
use Rattle.vx_canonical.specs.Canonical.{IsCanonical, IsCanonicalWithin}
use Rattle.vx_canonical.specs.Concatenated.{concat_fault, HasNumbersOf, IsConcatenated}
use Rattle.vx_tree.specs.CanonicalFaults.{canonical_fault}
use Rattle.vx_tree.specs.Faults.{position_fault, length_fault, valid_type_fault, validity_fault, slice_fault, take_fault}
use Rattle.vx_tree.specs.Extents.{extent_of}
use Rattle.vx_tree.specs.Flags.{is_flagged}
use Rattle.vx_canonical.specs.Joined.{joined_state}
use Rattle.vx_tree.specs.Layouts.{is_constant, is_list_view, is_primitive}
use Rattle.vx_tree.specs.Needs.{HasNeedsOf}
use Rattle.vx_tree.specs.OneValue.{HasOneValue}
use Rattle.vx_tree.specs.Operations.{IsSlice, IsSelected, IsNulled, picks, positions, filtered, masked, truths}
use Rattle.vx_tree.specs.Plain.{IsPlain}
use Rattle.vx_tree.specs.Shapes.{tree_state, shape_of, taken_shape}
use Rattle.vx_tree.specs.Validities.{is_full_state}
use Rattle.vx_leaves.specs.Narrow.{narrowed_type, numbers_among, IsNarrowed}
use Rattle.vx_lists.specs.ListViews.Faults.{rebuild_fault}
use Rattle.vx_lists.specs.ListViews.Modes.{IsRebuiltBy}
use Rattle.vx_structs.specs.Structs.Records.{projected, with_column, without_column, pushed, names_in}
use Rattle.vx_structs.specs.Structs.Records.{projected_kind, kind_with_column, kind_without_column, pushed_kind}
use Rattle.vx_structs.specs.Structs.Faults.{names_fault, unknown_fault}
use Rattle.vx_structs.specs.Structs.{is_struct, names_of, IsProjected, added, removed, IsPushed}
use Rattle.vx_run.specs.declared.steps.Step.{Step}
use Rattle.vx_run.specs.declared.steps.Step.TheVariants.{Slice, Take, Filter, Mask, Concat, Canonical, Rebuild, Narrow}
use Rattle.vx_run.specs.declared.steps.Step.TheVariants.{Project, WithColumn, RemoveColumn, PushValidity}

-- ---- on rows

-- rows, and the names of their fields where they are records
pub record NamedRows : Type 0 where
  pub names : List (List ℕ)
  pub row_list : List Row

abbrev pub named_rows : List (List ℕ) → List Row → NamedRows
named_rows ns rs = record { names = ns; row_list = rs }

-- the rows of an array
abbrev pub rows_of : Tree → NamedRows
rows_of t = named_rows (names_in (kind_of t)) (rows t)

-- the rows at a position, none where nothing stands there
abbrev pub rows_at : List NamedRows → ℕ → NamedRows
rows_at given i = slice_index_or given i (named_rows [] [])

-- the names of rows that are joined: those of the first
abbrev pub joined_names : List ℕ → (ℕ → NamedRows) → List (List ℕ)
joined_names [] at = []
joined_names (i ∷ is) at = (at i).names

-- without the name at a place, where there is one
abbrev pub names_without : Option ℕ → List (List ℕ) → List (List ℕ)
names_without None ns = ns
names_without (Some i) ns = remove ns i

-- the rows that a step appends, by the rows at each position
abbrev pub step_rows : Step → (ℕ → NamedRows) → NamedRows
step_rows (Slice array start end) at = named_rows (at array).names (slice_range (at array).row_list start end)
step_rows (Take array indices) at = named_rows (at array).names (picks (at array).row_list (positions (at indices).row_list))
step_rows (Filter array mask) at = named_rows (at array).names (filtered (truths (at mask).row_list) (at array).row_list)
step_rows (Mask array mask) at = named_rows (at array).names (masked (truths (at mask).row_list) (at array).row_list)
step_rows (Concat arrays) at = named_rows (joined_names arrays.items at) (flat_map (λ i. (at i).row_list) arrays.items)
step_rows (Canonical array) at = at array
step_rows (Rebuild array mode) at = at array
step_rows (Narrow array) at = at array
step_rows (Project array names) at = named_rows names.items (projected names.items (at array).row_list)
step_rows (WithColumn array name column) at =
    named_rows ((at array).names ++ name ∷ []) (with_column name (at column).row_list (at array).row_list)
step_rows (RemoveColumn array name) at =
    named_rows (names_without (place_of_name (at array).names name) (at array).names) (without_column name (at array).row_list)
step_rows (PushValidity array remove) at = named_rows (at array).names (pushed (at array).names remove (at array).row_list)

-- the rows after steps: each step appends its own
abbrev pub run_rows : List Step → List NamedRows → List NamedRows
run_rows [] given = given
run_rows (s ∷ ss) given = run_rows ss (given ++ step_rows s (rows_at given) ∷ [])

-- ---- on arrays

-- the array at a position, an empty one where none stands there
abbrev pub array_at : List Tree → ℕ → Tree
array_at arrays i = slice_index_or arrays i (bools 0 [] non_nullable)

-- the arrays at positions
abbrev pub arrays_at : List Tree → List ℕ → List Tree
arrays_at arrays is = map (array_at arrays) is

-- the kind of arrays that are joined: that of the first
abbrev pub joined_kind : List Tree → Kind
joined_kind [] = booleans false
joined_kind (t ∷ ts) = kind_of t

-- the kind of numbers in the narrowest type that has them
abbrev pub narrowed_kind : Kind → List Row → Kind
narrowed_kind (integers t n) rs = integers (narrowed_type t (numbers_among rs)) n
narrowed_kind k rs = k

-- the kind of what a step appends
abbrev pub step_kind : Step → List Tree → Kind
step_kind (Slice array start end) arrays = kind_of (array_at arrays array)
step_kind (Take array indices) arrays = or_nullable (is_nullable_kind (kind_of (array_at arrays indices))) (kind_of (array_at arrays array))
step_kind (Filter array mask) arrays = kind_of (array_at arrays array)
step_kind (Mask array mask) arrays = or_nullable true (kind_of (array_at arrays array))
step_kind (Concat is) arrays = joined_kind (arrays_at arrays is.items)
step_kind (Canonical array) arrays = kind_of (array_at arrays array)
step_kind (Rebuild array mode) arrays = kind_of (array_at arrays array)
step_kind (Narrow array) arrays = narrowed_kind (kind_of (array_at arrays array)) (rows (array_at arrays array))
step_kind (Project array names) arrays = projected_kind names.items (kind_of (array_at arrays array))
step_kind (WithColumn array name column) arrays = kind_with_column name (kind_of (array_at arrays column)) (kind_of (array_at arrays array))
step_kind (RemoveColumn array name) arrays = kind_without_column name (kind_of (array_at arrays array))
step_kind (PushValidity array remove) arrays =
    pushed_kind (is_full_state (tree_state (array_at arrays array))) remove (kind_of (array_at arrays array))

-- what `take` promises beside rows and kind: the layout, and of a constant one value; where there are rows to take from, the
-- same elements and buffers at every depth, and, but of a constant, the same faults where it is taken from or made plain
pub record IsTaken (t indices r : Tree) : Type 0 where
  pub shape : shape_of r ≡ taken_shape (shape_of t) (tree_state indices)
  pub one_value : is_constant t ≡ true → HasOneValue r
  pub extent : 0 < tree_len t → extent_of r ≡ extent_of t
  pub needs : 0 < tree_len t → is_constant t ≡ false → HasNeedsOf t r

-- what the call of a step promises of the array beside its rows and its kind: layout, state, flag, and what stays of its parts
abbrev pub HasLayout : Step → List Tree → Tree → Type 0
HasLayout (Slice array start end) arrays r = IsSlice (array_at arrays array) start (end - start) r
HasLayout (Take array indices) arrays r = IsTaken (array_at arrays array) (array_at arrays indices) r
HasLayout (Filter array mask) arrays r = IsSelected (array_at arrays array) (trues (truths (rows (array_at arrays mask)))) r
HasLayout (Mask array mask) arrays r =
    IsNulled (array_at arrays array) (by_array (array_at arrays mask)) r
    × (is_constant (array_at arrays array) ≡ true → HasOneValue r)
HasLayout (Concat is) arrays r =
    IsConcatenated (arrays_at arrays is.items) r × (tree_state r ≡ joined_state (arrays_at arrays is.items)) × (is_flagged r ≡ false)
    × HasNumbersOf (arrays_at arrays is.items) r
HasLayout (Canonical array) arrays r =
    IsCanonical (array_at arrays array) r × IsCanonicalWithin (array_at arrays array) r
    × (IsPlain (array_at arrays array) → r ≡ array_at arrays array)
HasLayout (Rebuild array mode) arrays r = (is_list_view r ≡ true) × IsRebuiltBy mode (array_at arrays array) r
HasLayout (Narrow array) arrays r = (is_primitive r ≡ true) × IsNarrowed (array_at arrays array) r
HasLayout (Project array names) arrays r = IsProjected (array_at arrays array) names.items r
HasLayout (WithColumn array name column) arrays r = r ≡ added (array_at arrays array) name (array_at arrays column)
HasLayout (RemoveColumn array name) arrays r = (column : Tree) × (removed (array_at arrays array) name ≡ Some (r, column))
HasLayout (PushValidity array remove) arrays r = IsPushed (array_at arrays array) remove r

-- what a step appends to arrays
pub record IsStep (step : Step) (arrays : List Tree) (r : Tree) : Type 0 where
  pub same_rows : rows_of r ≡ step_rows step (λ i. rows_of (array_at arrays i))
  pub kind : kind_of r ≡ step_kind step arrays
  pub layout : HasLayout step arrays r

-- ---- faults

-- not the layout that a step takes
abbrev pub layout_fault : Bool → Option Refusal
layout_fault is = if is then None else Some mismatched_types

-- the first position of some that is not below n
abbrev pub positions_fault : ℕ → List ℕ → Option Refusal
positions_fault n [] = None
positions_fault n (i ∷ is) = or_else (position_fault n i) (positions_fault n is)

-- no array at a position, or one that is not of plain booleans
abbrev pub mask_fault : List Tree → ℕ → Option Refusal
mask_fault arrays i = or_else (position_fault (length arrays) i) (valid_type_fault (by_array (array_at arrays i)))

-- no array at a position, or one that has not the struct layout
abbrev pub records_fault : List Tree → ℕ → Option Refusal
records_fault arrays i = or_else (position_fault (length arrays) i) (layout_fault (is_struct (array_at arrays i)))

-- the first fault of a step: a position at which no array stands, another layout than it takes, then what its call refuses
abbrev pub step_fault : Step → List Tree → Option Refusal
step_fault (Slice array start end) arrays =
    or_else (position_fault (length arrays) array) (slice_fault (tree_len (array_at arrays array)) start end)
step_fault (Take array indices) arrays =
    or_else (position_fault (length arrays) array)
    (or_else (position_fault (length arrays) indices) (take_fault (array_at arrays array) (array_at arrays indices)))
step_fault (Filter array mask) arrays =
    or_else (position_fault (length arrays) array)
    (or_else (mask_fault arrays mask) (length_fault (tree_len (array_at arrays array)) (tree_len (array_at arrays mask))))
step_fault (Mask array mask) arrays =
    or_else (position_fault (length arrays) array) (or_else (position_fault (length arrays) mask)
    (validity_fault (by_array (array_at arrays mask)) (tree_len (array_at arrays array))))
step_fault (Concat is) arrays = or_else (positions_fault (length arrays) is.items) (concat_fault (arrays_at arrays is.items))
step_fault (Canonical array) arrays = or_else (position_fault (length arrays) array) (canonical_fault (array_at arrays array))
step_fault (Rebuild array mode) arrays =
    or_else (or_else (position_fault (length arrays) array) (layout_fault (is_list_view (array_at arrays array))))
    (rebuild_fault mode (array_at arrays array))
step_fault (Narrow array) arrays =
    or_else (position_fault (length arrays) array) (layout_fault (is_primitive (array_at arrays array)))
step_fault (Project array names) arrays =
    or_else (records_fault arrays array) (names_fault (names_of (array_at arrays array)) names.items)
step_fault (WithColumn array name column) arrays =
    or_else (position_fault (length arrays) array) (or_else (position_fault (length arrays) column)
    (or_else (layout_fault (is_struct (array_at arrays array)))
    (length_fault (tree_len (array_at arrays array)) (tree_len (array_at arrays column)))))
step_fault (RemoveColumn array name) arrays =
    or_else (records_fault arrays array) (unknown_fault (place_of_name (names_of (array_at arrays array)) name))
step_fault (PushValidity array remove) arrays = records_fault arrays array

-- ---- lists of steps

-- the arrays after steps: each step finds no fault in the arrays before it, and appends one array
abbrev pub IsRun : List Step → List Tree → List Tree → Type 0
IsRun [] arrays results = results ≡ arrays
IsRun (s ∷ ss) arrays results = (r : Tree) × (step_fault s arrays ≡ None) × IsStep s arrays r × IsRun ss (arrays ++ r ∷ []) results

-- the arrays after steps: the given ones in front, then one a step, with the rows that definitions give
pub record HasRun (steps : List Step) (arrays results : List Tree) : Type 0 where
  pub len : length results ≡ length arrays + length steps
  pub given : take (length arrays) results ≡ arrays
  pub each : IsRun steps arrays results
  pub same_rows : map rows_of results ≡ run_rows steps (map rows_of arrays)

-- a step that finds these arrays is refused, by its first fault or for want of memory
abbrev pub IsStop : List Step → ℕ → List Tree → VortexError → Type 0
IsStop steps k arrays error = IsSomeAnd (slice_get steps k) (λ s. IsMemoryOr (step_fault s arrays) error)

-- memory is refused at the first step; or there is room for so many arrays
abbrev pub HasRoom : ℕ → ℕ → ℕ → VortexError → Type 0
HasRoom count room k error = ((k ≡ 0) × (error ≡ Memory)) ⊎ (count ≤ room)

-- ---- laws

-- what is a run step by step is a run
abbrev pub StepsMakeARun : Type 0
StepsMakeARun = (steps : List Step) (arrays results : List Tree) → IsRun steps arrays results → HasRun steps arrays results

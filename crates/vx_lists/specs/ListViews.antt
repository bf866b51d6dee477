-- What a list view is made of, what it stands for, and what rebuilding gives.
pub mod Layout
pub mod CountBytes
pub mod Faults
pub mod References
pub mod PlannedRuns
pub mod Modes
use Rattle.std.specs.Prelude.{◌≡◌, ℕ, Bool, true, false, List, map, codes, Option}
use Rattle.vx_base.specs.declared.ptypes.PType.{PType}
use Rattle.vx_base.specs.declared.ptypes.PType.TheVariants.{U8, U16, U32, U64, I8, I16, I32, I64}
use Rattle.vx_base.specs.Rows.{Row, count_in, list_in}
use Rattle.vx_base.specs.Kinds.{integers, integer_type}
use Rattle.vx_tree.specs.Tree.{Tree, fixed_list, list_view}
pub use Rattle.vx_tree.specs.Layouts.{is_list_view}
pub use Rattle.vx_tree.specs.Slots.{validity_of}
use Rattle.vx_tree.specs.Meaning.{tree_len, kind_of, rows, valid_mask}
use Rattle.vx_tree.specs.Needs.{HasNeedsOf}
use Rattle.vx_tree.specs.Shapes.{state_of, shape_of, selected_shape}
use Rattle.vx_tree.specs.Formed.{IsCounts}
use Rattle.vx_lists.specs.ListViews.CountBytes.{HoldCounts}
use Rattle.vx_lists.specs.ListViews.Layout.{ListLayout, layout, canonical, valid_sizes, valid_total, joined_positions}

-- ---- the parts of a list view; another layout has none

abbrev pub elements_of : Tree → Tree
elements_of (fixed_list e k v n) = e
elements_of (list_view e o s v f) = e
elements_of t = t

abbrev pub offsets_of : Tree → Tree
offsets_of (list_view e o s v f) = o
offsets_of t = t

abbrev pub sizes_of : Tree → Tree
sizes_of (list_view e o s v f) = s
sizes_of t = t

-- whether the lists are known to be consecutive
abbrev pub flag_of : Tree → Bool
flag_of (list_view e o s v f) = f
flag_of _ = false

-- the same list view under a flag
abbrev pub with_flag : Bool → Tree → Tree
with_flag f t = list_view (elements_of t) (offsets_of t) (sizes_of t) (validity_of t) f

-- how the flag is printed
abbrev pub flag_text : Bool → List ℕ
flag_text true = codes "is_zero_copy_to_list: true"
flag_text false = codes "is_zero_copy_to_list: false"

-- ---- what it stands for

-- the counts that the rows of an array are
abbrev pub counts_in : Tree → List ℕ
counts_in t = map count_in (rows t)

-- an array of plain integers of a type that are these counts
pub record IsCountArray (t : PType) (counts : List ℕ) (array : Tree) : Type 0 where
  pub kind : kind_of array ≡ integers t false
  pub are_counts : IsCounts array
  pub counts_are : counts_in array ≡ counts

-- the mask of a list view
abbrev pub mask_of : Tree → List Bool
mask_of t = valid_mask (validity_of t) (tree_len t)

-- the offsets, the sizes, the mask and the element rows of a list view
abbrev pub list_layout_of : Tree → ListLayout Row
list_layout_of t = layout (counts_in (offsets_of t)) (counts_in (sizes_of t)) (mask_of t) (rows (elements_of t))

-- the rows of an array of lists, each a list of rows, or none where it is null
abbrev pub list_rows : Tree → List (Option (List Row))
list_rows t = map list_in (rows t)

-- ---- what rebuilding gives

-- the type that offsets or sizes of a type have in a rebuilt list view
abbrev pub rebuilt_ptype : PType → PType
rebuilt_ptype U8 = U32
rebuilt_ptype U16 = U32
rebuilt_ptype U32 = U32
rebuilt_ptype U64 = U64
rebuilt_ptype I8 = I32
rebuilt_ptype I16 = I32
rebuilt_ptype I32 = I32
rebuilt_ptype I64 = I64

-- the sizes of a list view, 0 at its null rows
abbrev pub valid_sizes_of : Tree → List ℕ
valid_sizes_of t = valid_sizes (counts_in (sizes_of t)) (mask_of t)

-- the positions of the elements of its valid rows, one row after another
abbrev pub valid_positions_of : Tree → List ℕ
valid_positions_of t = joined_positions (counts_in (offsets_of t)) (valid_sizes_of t)

-- how many elements its valid rows have in all
abbrev pub total_of : Tree → ℕ
total_of t = valid_total (counts_in (sizes_of t)) (mask_of t)

-- what a list view is rebuilt from: its offsets, as bytes of their type, the sizes of its valid rows, as bytes of the rebuilt
-- type, and the total of these sizes
pub record IsRebuildPlan (t : Tree) (offset_type : PType) (offsets : List ℕ) (size_type : PType) (sizes : List ℕ)
    (count : ℕ) : Type 0 where
  pub offset_type_is : offset_type ≡ integer_type (kind_of (offsets_of t))
  pub offsets_are : HoldCounts offset_type offsets (counts_in (offsets_of t))
  pub size_type_is : size_type ≡ rebuilt_ptype (integer_type (kind_of (sizes_of t)))
  pub sizes_are : HoldCounts size_type sizes (valid_sizes_of t)
  pub count_is : count ≡ total_of t

-- a flagged list view in the canonical layout of the rows of another, under the same kind and state, with offsets and sizes
-- of the rebuilt types; its elements are in the layout of selected ones, and need no more
pub record IsRebuilt (t r : Tree) : Type 0 where
  pub is_view : is_list_view r ≡ true
  pub canonical_layout : list_layout_of r ≡ canonical (list_rows t)
  pub flag : flag_of r ≡ true
  pub offsets_kind : kind_of (offsets_of r) ≡ integers (rebuilt_ptype (integer_type (kind_of (offsets_of t)))) false
  pub sizes_kind : kind_of (sizes_of r) ≡ integers (rebuilt_ptype (integer_type (kind_of (sizes_of t)))) false
  pub kind : kind_of r ≡ kind_of t
  pub state : state_of (validity_of r) ≡ state_of (validity_of t)
  pub elements_shape : shape_of (elements_of r) ≡ selected_shape (shape_of (elements_of t))
  pub elements_need : HasNeedsOf (elements_of t) (elements_of r)
  pub same_rows : rows r ≡ rows t

-- two list views of equal offsets and sizes as numbers, equal masks and equal element rows
pub record AreAlike (t u : Tree) : Type 0 where
  pub offsets : counts_in (offsets_of t) ≡ counts_in (offsets_of u)
  pub sizes : counts_in (sizes_of t) ≡ counts_in (sizes_of u)
  pub masks : mask_of t ≡ mask_of u
  pub elements : rows (elements_of t) ≡ rows (elements_of u)

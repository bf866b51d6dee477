-- Arrays that are joined, one after another.
use Rattle.std.specs.Prelude.{◌≡◌, ◌<◌, ◌≤◌, ◌++◌, ◌+◌, ◌-◌, ◌*◌, ℕ, pos, zero, suc, Bool, true, false, slice_index}
use Rattle.std.specs.Prelude.{List, [], ◌∷◌, length, map, replicate, nat_lt, if◌then◌else◌, slice_index_or}
use Rattle.vx_base.specs.Integers.{byte_width, numbers, number_nth}
use Rattle.vx_base.specs.Kinds.{Kind, integers}
use Rattle.vx_base.specs.declared.ptypes.PType.{PType}
use Rattle.vx_base.specs.declared.ptypes.PType.TheVariants.{U64}
use Rattle.vx_base.specs.Rows.{Row, null, whole, items, record_of, is_present, count_in}
use Rattle.vx_views.specs.Views.{view_size, view_prefix, view_block, view_offset, is_inline, view_value, ref_view, Resolves}
use Rattle.vx_views.specs.Sound.{IsSoundView}
use Rattle.vx_tree.specs.Tree.{Tree, bools, primitive, fixed_list, list_view, structure, view_array}
use Rattle.vx_tree.specs.Tree.{Trees, no_trees, tree, Valid, non_nullable}
use Rattle.vx_tree.specs.Meaning.{tree_len, kind_of, row_at, fields_at, rows_range, is_valid_at, nullable, value_row}
use Rattle.vx_tree.specs.Formed.{ValidFits, IsCounts, AllLen, column_count}
use Rattle.vx_tree.specs.Shapes.{State, never_null, none_null, every_null, told, state_of, tree_state}
use Rattle.std.specs.List.{flat_map, range_with_len}
use Rattle.vx_tree.specs.Layouts.{is_primitive, is_fixed_list, is_list_view, is_struct, is_view_array}
use Rattle.vx_tree.specs.Flags.{is_flagged}
use Rattle.vx_tree.specs.Extents.{extent_of, joined_extent}
use Rattle.vx_tree.specs.Fitting.{AreViews}
use Rattle.vx_tree.specs.Plain.{IsPlain, IsPlainValid}
use Rattle.vx_tree.specs.declared.array.Validity.{Validity}
use Rattle.vx_tree.specs.Parts.{valid_of}
use Rattle.vx_tree.specs.Operations.{IsValidityOf}

-- how many rows all of them have
abbrev pub joined_len : List Tree → ℕ
joined_len [] = 0
joined_len (t ∷ ts) = tree_len t + joined_len ts

-- what f says of row i of all of them: of the array that has it, and the place there
abbrev pub joined_at : {A : Type 0} → (Tree → ℕ → A) → A → List Tree → ℕ → A
joined_at f d [] i = d
joined_at f d (t ∷ ts) i = if nat_lt i (tree_len t) then f t i else joined_at f d ts (i - tree_len t)

-- row i of all of them
abbrev pub joined_row : List Tree → ℕ → Row
joined_row ts i = joined_at row_at null ts i

-- one state beside another: told by an array, unless both are the same one that no array tells
abbrev pub joined_states : State → State → State
joined_states never_null never_null = never_null
joined_states none_null none_null = none_null
joined_states every_null every_null = every_null
joined_states _ _ = told

-- the state that all of them have, told by an array where they have not one that no array tells
abbrev pub joined_state : List Tree → State
joined_state [] = told
joined_state (t ∷ []) = tree_state t
joined_state (t ∷ u ∷ ts) = joined_states (tree_state t) (joined_state (u ∷ ts))

-- the rows of arrays, one array after another, in plain layouts, with the elements and the buffers of all of them
pub record IsJoined (k : Kind) (ts : List Tree) (r : Tree) : Type 0 where
  pub len : tree_len r ≡ joined_len ts
  pub kind : kind_of r ≡ k
  pub plain : IsPlain r
  pub state : 0 < length ts → tree_state r ≡ joined_state ts
  pub extent : extent_of r ≡ joined_extent k (map extent_of ts)
  pub flag : is_flagged r ≡ false
  pub rows : (i : ℕ) → i < joined_len ts → row_at r i ≡ joined_row ts i

-- their validity
pub record IsValidJoined (n : Bool) (ts : List Tree) (v : Valid) : Type 0 where
  pub fits : ValidFits v (joined_len ts)
  pub kind : nullable v ≡ n
  pub plain : IsPlainValid v
  pub state : 0 < length ts → state_of v ≡ joined_state ts
  pub bits : (i : ℕ) → i < joined_len ts → is_valid_at v i ≡ is_present (joined_row ts i)

-- the bits of an array of booleans
abbrev pub bits_in : Tree → List Bool
bits_in (bools b bits v) = bits
bits_in _ = []

-- the bytes of an array of numbers
abbrev pub bytes_in : Tree → List ℕ
bytes_in (primitive t bs v) = bs
bytes_in _ = []

-- validities and lengths, each that of an array
abbrev pub ArePartsOf : List Tree → List (Validity × ℕ) → Type 0
ArePartsOf [] [] = Unit {0}
ArePartsOf (t ∷ ts) (part ∷ parts) = IsValidityOf t (valid_of part.0) × (part.1 ≡ tree_len t) × ArePartsOf ts parts
ArePartsOf _ _ = ⊥

-- numbers of a type, in whole numbers of bytes
pub record AreNumbers (p : PType) (t : Tree) : Type 0 where
  pub layout : is_primitive t ≡ true
  pub bytes : length (bytes_in t) ≡ tree_len t * byte_width p
  pub content : (j : ℕ) → j < tree_len t
      → row_at t j ≡ (if is_present (row_at t j) then whole (number_nth (numbers p (bytes_in t)) j) else null)

-- the elements of an array of lists
abbrev pub elements_in : Tree → Tree
elements_in (fixed_list e k v n) = e
elements_in (list_view e o s v f) = e
elements_in t = t

-- lists of one size
pub record AreFixedLists (k : ℕ) (t : Tree) : Type 0 where
  pub layout : is_fixed_list t ≡ true
  pub elements : tree_len (elements_in t) ≡ tree_len t * k
  pub content : (j : ℕ) → j < tree_len t
      → row_at t j ≡ (if is_present (row_at t j) then items (rows_range (row_at (elements_in t)) (j * k) k) else null)

-- the columns of an array of records
abbrev pub columns_in : Tree → Trees
columns_in (structure ns ts v n) = ts
columns_in _ = no_trees

-- a column by its place
abbrev pub column_at : Trees → ℕ → Tree
column_at no_trees c = bools 0 [] non_nullable
column_at (tree t ts) zero = t
column_at (tree t ts) (suc c) = column_at ts c

-- a column of an array of records
abbrev pub column_of : ℕ → Tree → Tree
column_of c t = column_at (columns_in t) c

-- records of so many columns under these names
pub record AreRecords (ns : List (List ℕ)) (t : Tree) : Type 0 where
  pub layout : is_struct t ≡ true
  pub count : column_count (columns_in t) ≡ length ns
  pub lens : AllLen (tree_len t) (columns_in t)
  pub content : (j : ℕ) → j < tree_len t
      → row_at t j ≡ (if is_present (row_at t j) then record_of (fields_at (columns_in t) ns j) else null)

-- each column is that column of the arrays, one array after another
pub record AreColumnsJoined (ts : List Tree) (m : ℕ) (cs : Trees) : Type 0 where
  pub count : column_count cs ≡ m
  pub each : (c : ℕ) → c < m → IsJoined (kind_of (column_at cs c)) (map (column_of c) ts) (column_at cs c)

-- the counts that the rows of an array are
abbrev pub counts_in : Tree → List ℕ
counts_in t = map (λ i. count_in (row_at t i)) (range_with_len 0 (tree_len t))

abbrev pub offsets_in : Tree → Tree
offsets_in (list_view e o s v f) = o
offsets_in t = t

abbrev pub sizes_in : Tree → Tree
sizes_in (list_view e o s v f) = s
sizes_in t = t

-- the offsets of arrays of lists, each further by a base and by the elements of the arrays before
abbrev pub offsets_from : ℕ → List Tree → List ℕ
offsets_from base [] = []
offsets_from base (t ∷ ts) = map (λ n. base + n) (counts_in (offsets_in t)) ++ offsets_from (base + tree_len (elements_in t)) ts

-- the sizes of them
abbrev pub joined_sizes : List Tree → List ℕ
joined_sizes ts = flat_map (λ t. counts_in (sizes_in t)) ts

-- lists that lie within their elements
pub record AreLists (t : Tree) : Type 0 where
  pub layout : is_list_view t ≡ true
  pub offsets : IsCounts (offsets_in t) × (is_primitive (offsets_in t) ≡ true) × (tree_len (offsets_in t) ≡ tree_len t)
  pub sizes : IsCounts (sizes_in t) × (is_primitive (sizes_in t) ≡ true) × (tree_len (sizes_in t) ≡ tree_len t)
  pub within : (j : ℕ) → j < tree_len t
      → count_in (row_at (offsets_in t) j) + count_in (row_at (sizes_in t) j) ≤ tree_len (elements_in t)
  pub content : (j : ℕ) → j < tree_len t
      → row_at t j ≡ (if is_present (row_at t j)
      then items (rows_range (row_at (elements_in t)) (count_in (row_at (offsets_in t) j)) (count_in (row_at (sizes_in t) j)))
      else null)

-- plain numbers that are these counts
pub record IsCountsOf (ns : List ℕ) (t : Tree) : Type 0 where
  pub len : tree_len t ≡ length ns
  pub kind : kind_of t ≡ integers U64 false
  pub plain : IsPlain t
  pub rows : (i : ℕ) → i < length ns → row_at t i ≡ whole (pos (slice_index ns i))

-- the views of an array of texts or of byte lists
abbrev pub views_in : Tree → List (List ℕ)
views_in (view_array vs bs k v) = vs
views_in _ = []

-- the buffers that they refer to
abbrev pub buffers_in : Tree → List (List ℕ)
buffers_in (view_array vs bs k v) = bs
buffers_in _ = []

-- the buffers of arrays, one array after another
abbrev pub joined_buffers : List Tree → List (List ℕ)
joined_buffers ts = flat_map buffers_in ts

-- the same view, its buffer numbered further by n; a view that holds its value refers to none
abbrev pub shifted_view : ℕ → List ℕ → List ℕ
shifted_view n view = if is_inline view then view
    else ref_view (view_size view) (view_prefix view) (n + view_block view) (view_offset view)

-- the views of arrays, their buffers numbered further by n and by the buffers of the arrays before
abbrev pub views_from : ℕ → List Tree → List (List ℕ)
views_from n [] = []
views_from n (t ∷ ts) = map (shifted_view n) (views_in t) ++ views_from (n + length (buffers_in t)) ts

-- the numbers and columns of arrays, one array after another, at every depth: offsets and sizes of lists are numbers of type U64,
-- each offset further by the elements of the arrays before; each column of records is that column of the arrays, also where a record
-- is null; views are numbered further by their buffers, and all buffers stand in order
abbrev mutual
  pub HasJoinedNumbers : List Tree → Tree → Type 0
  HasJoinedNumbers ts (fixed_list e k v n) = HasJoinedNumbers (map elements_in ts) e
  HasJoinedNumbers ts (list_view e o s v f) =
      IsCountsOf (offsets_from 0 ts) o × IsCountsOf (joined_sizes ts) s × HasJoinedNumbers (map elements_in ts) e
  HasJoinedNumbers ts (structure ns us v n) = AreColumnsJoined ts (column_count us) us × HaveJoinedNumbers ts 0 us
  HasJoinedNumbers ts (view_array vs bs k v) = (vs ≡ views_from 0 ts) × (bs ≡ joined_buffers ts)
  HasJoinedNumbers ts _ = Unit {0}

  -- of the columns from place c on
  pub HaveJoinedNumbers : List Tree → ℕ → Trees → Type 0
  HaveJoinedNumbers ts c no_trees = Unit {0}
  HaveJoinedNumbers ts c (tree u us) = HasJoinedNumbers (map (column_of c) ts) u × HaveJoinedNumbers ts (suc c) us

-- views that resolve in the buffers beside them
pub record AreResolved (t : Tree) : Type 0 where
  pub layout : is_view_array t ≡ true
  pub resolves : (j : ℕ) → j < length (views_in t) → Resolves (buffers_in t) (slice_index_or (views_in t) j [])

-- texts or byte lists by sound views, those of null rows 16 zero bytes
pub record AreValues (is_text : Bool) (t : Tree) : Type 0 where
  pub len : length (views_in t) ≡ tree_len t
  pub views : AreViews (views_in t) (buffers_in t)
  pub resolved : AreResolved t
  pub sound : (j : ℕ) → j < tree_len t → is_present (row_at t j) ≡ true
      → IsSoundView (buffers_in t) is_text (slice_index_or (views_in t) j [])
  pub zeroes : (j : ℕ) → j < tree_len t → is_present (row_at t j) ≡ false → slice_index_or (views_in t) j [] ≡ replicate 16 0
  pub content : (j : ℕ) → j < tree_len t
      → row_at t j ≡ (if is_present (row_at t j)
      then value_row is_text (view_value (buffers_in t) (slice_index_or (views_in t) j []))
      else null)

-- How many elements the lists of an array have, and how many buffers its views, in plain layout.
use Rattle.std.specs.Prelude.{ℕ, zero, suc, List, [], ◌∷◌, length, map, count_by}
use Rattle.std.specs.List.{flat_map, sum_by}
use Rattle.vx_base.specs.Rows.{Row}
use Rattle.vx_base.specs.Kinds.{Kind, texts, binaries, lists, fixed_lists, records, Kinds, no_kinds, kind}
use Rattle.vx_tree.specs.Tree.{Tree, bools, primitive, constant, dictionary, fixed_list, list_view, structure}
use Rattle.vx_tree.specs.Tree.{view_array, Trees, no_trees, tree}
use Rattle.vx_tree.specs.Meaning.{tree_len}
use Rattle.vx_tree.specs.RowParts.{field_in, is_long_row, items_in, items_or_nulls}

mutual
  -- the extent of an array, at every depth
  pub data Extent : Type 0 where
    -- booleans, integers
    leaf_extent : Extent
    -- texts, byte lists: how many buffers
    view_extent : ℕ → Extent
    -- lists: how many elements, and their extent
    list_extent : ℕ → Extent → Extent
    -- lists of one size, which tells how many elements the rows have: their extent
    fixed_list_extent : Extent → Extent
    -- records: the extents of the columns
    struct_extent : Extents → Extent

  pub data Extents : Type 0 where
    no_extents : Extents
    extent : Extent → Extents → Extents

-- of rows of a kind: lists have the elements of each once, a text or a byte list that is too long for its view a buffer of its own
abbrev mutual
  pub rows_extent : Kind → List Row → Extent
  rows_extent (texts m) rs = view_extent (count_by is_long_row rs)
  rows_extent (binaries m) rs = view_extent (count_by is_long_row rs)
  rows_extent (lists k m) rs = list_extent (length (flat_map items_in rs)) (rows_extent k (flat_map items_in rs))
  rows_extent (fixed_lists k size m) rs = fixed_list_extent (rows_extent k (flat_map (items_or_nulls size) rs))
  rows_extent (records names ks m) rs = struct_extent (fields_extents ks 0 rs)
  rows_extent _ rs = leaf_extent

  -- of the fields from place c on
  pub fields_extents : Kinds → ℕ → List Row → Extents
  fields_extents no_kinds c rs = no_extents
  fields_extents (kind k ks) c rs = extent (rows_extent k (map (field_in c) rs)) (fields_extents ks (suc c) rs)

-- of an array in plain layout: of a constant that of its one row, however often it stands; of a dictionary that of its values,
-- whichever its codes name
abbrev mutual
  pub extent_of : Tree → Extent
  extent_of (bools b bits v) = leaf_extent
  extent_of (primitive t bs v) = leaf_extent
  extent_of (constant k r n) = rows_extent k (r ∷ [])
  extent_of (dictionary c v f) = extent_of v
  extent_of (fixed_list e k v n) = fixed_list_extent (extent_of e)
  extent_of (list_view e o s v f) = list_extent (tree_len e) (extent_of e)
  extent_of (structure ns ts v n) = struct_extent (extents_of ts)
  extent_of (view_array vs bs k v) = view_extent (length bs)

  pub extents_of : Trees → Extents
  extents_of no_trees = no_extents
  extents_of (tree t ts) = extent (extent_of t) (extents_of ts)

-- ---- parts of an extent

-- how many buffers there are
abbrev pub buffer_count : Extent → ℕ
buffer_count (view_extent n) = n
buffer_count _ = 0

-- how many elements lists have
abbrev pub element_count : Extent → ℕ
element_count (list_extent n x) = n
element_count _ = 0

-- the extent of the elements of lists
abbrev pub elements_extent : Extent → Extent
elements_extent (list_extent n x) = x
elements_extent (fixed_list_extent x) = x
elements_extent _ = leaf_extent

-- the extent of the column at a place
abbrev pub extent_at : ℕ → Extents → Extent
extent_at c no_extents = leaf_extent
extent_at zero (extent x xs) = x
extent_at (suc c) (extent x xs) = extent_at c xs

abbrev pub column_extent : ℕ → Extent → Extent
column_extent c (struct_extent xs) = extent_at c xs
column_extent c _ = leaf_extent

-- ---- arrays of one kind, joined

-- together they have the elements of all and the buffers of all, at every depth
abbrev mutual
  pub joined_extent : Kind → List Extent → Extent
  joined_extent (texts m) xs = view_extent (sum_by buffer_count xs)
  joined_extent (binaries m) xs = view_extent (sum_by buffer_count xs)
  joined_extent (lists k m) xs = list_extent (sum_by element_count xs) (joined_extent k (map elements_extent xs))
  joined_extent (fixed_lists k size m) xs = fixed_list_extent (joined_extent k (map elements_extent xs))
  joined_extent (records names ks m) xs = struct_extent (joined_extents ks 0 xs)
  joined_extent _ xs = leaf_extent

  -- of the columns from place c on
  pub joined_extents : Kinds → ℕ → List Extent → Extents
  joined_extents no_kinds c xs = no_extents
  joined_extents (kind k ks) c xs = extent (joined_extent k (map (column_extent c) xs)) (joined_extents ks (suc c) xs)

-- What a tree means: its length, its kind, its rows.
use Rattle.std.specs.Prelude.{◌*◌, ℕ, zero, suc, Bool, true, false, List, [], ◌∷◌, length, map, if◌then◌else◌, Option}
use Rattle.std.specs.Prelude.{Some, None, slice_index_or}
use Rattle.std.specs.List.{range_with_len}
use Rattle.vx_base.specs.Integers.{numbers, number_nth}
use Rattle.vx_base.specs.Bits.{bool_at}
use Rattle.vx_base.specs.Rows.{Row, null, boolean, whole, bytes, text, items, record_of, Rows, no_rows, row, Fields}
use Rattle.vx_base.specs.Rows.{no_fields, field, truth_of, position_in, count_in}
use Rattle.vx_base.specs.Kinds.{Kind, booleans, integers, texts, lists, fixed_lists, records, Kinds, no_kinds, kind}
use Rattle.vx_base.specs.Kinds.{is_nullable_kind, or_nullable}
use Rattle.vx_views.specs.Views.{view_value}
use Rattle.vx_tree.specs.Tree.{Tree, bools, primitive, constant, dictionary, fixed_list, list_view, structure}
use Rattle.vx_tree.specs.Tree.{view_array, Trees, no_trees, tree, Valid, non_nullable, all_valid, all_invalid}
use Rattle.vx_tree.specs.Tree.{by_array}

-- columns, as a list of trees
abbrev pub trees_from : List Tree → Trees
trees_from [] = no_trees
trees_from (t ∷ ts) = tree t (trees_from ts)

-- null may stand under the validity
abbrev pub nullable : Valid → Bool
nullable non_nullable = false
nullable all_valid = true
nullable all_invalid = true
nullable (by_array t) = true

-- how many rows there are
abbrev pub tree_len : Tree → ℕ
tree_len (bools b bits v) = length bits
tree_len (primitive t bs v) = length (numbers t bs)
tree_len (constant k r n) = n
tree_len (dictionary c v f) = tree_len c
tree_len (fixed_list e k v n) = n
tree_len (list_view e o s v f) = tree_len o
tree_len (structure ns ts v n) = n
tree_len (view_array vs bs k v) = length vs

-- of what kind the rows are
abbrev mutual
  pub kind_of : Tree → Kind
  kind_of (bools b bits v) = booleans (nullable v)
  kind_of (primitive t bs v) = integers t (nullable v)
  kind_of (constant k r n) = k
  kind_of (dictionary c v f) = or_nullable (is_nullable_kind (kind_of c)) (kind_of v)
  kind_of (fixed_list e k v n) = fixed_lists (kind_of e) k (nullable v)
  kind_of (list_view e o s v f) = lists (kind_of e) (nullable v)
  kind_of (structure ns ts v n) = records ns (kinds_of ts) (nullable v)
  kind_of (view_array vs bs k v) = k

  pub kinds_of : Trees → Kinds
  kinds_of no_trees = no_kinds
  kinds_of (tree t ts) = kind (kind_of t) (kinds_of ts)

-- n of the rows that f tells, from one on
abbrev pub rows_range : (ℕ → Row) → ℕ → ℕ → Rows
rows_range f start zero = no_rows
rows_range f start (suc n) = row (f start) (rows_range f (suc start) n)

-- the row at an optional position: null where there is none
abbrev pub picked : (ℕ → Row) → Option ℕ → Row
picked f None = null
picked f (Some k) = f k

-- a kind of texts
abbrev pub is_texts : Kind → Bool
is_texts (texts n) = true
is_texts _ = false

-- the row of a value: a text where texts stand, else bytes
abbrev pub value_row : Bool → List ℕ → Row
value_row true value = text value
value_row false value = bytes value

-- row i of each layout, where its validity is true; null elsewhere
abbrev mutual
  pub row_at : Tree → ℕ → Row
  row_at (bools b bits v) i = if is_valid_at v i then boolean (bool_at bits i) else null
  row_at (primitive t bs v) i = if is_valid_at v i then whole (number_nth (numbers t bs) i) else null
  row_at (constant k r n) i = r
  row_at (dictionary c v f) i = picked (row_at v) (position_in (row_at c i))
  row_at (fixed_list e k v n) i = if is_valid_at v i then items (rows_range (row_at e) (i * k) k) else null
  row_at (list_view e o s v f) i =
      if is_valid_at v i then items (rows_range (row_at e) (count_in (row_at o i)) (count_in (row_at s i))) else null
  row_at (structure ns ts v n) i = if is_valid_at v i then record_of (fields_at ts ns i) else null
  row_at (view_array vs bs k v) i = if is_valid_at v i then value_row (is_texts k) (view_value bs (slice_index_or vs i [])) else null

  pub fields_at : Trees → List (List ℕ) → ℕ → Fields
  fields_at no_trees ns i = no_fields
  fields_at (tree t ts) [] i = no_fields
  fields_at (tree t ts) (n ∷ ns) i = field n (row_at t i) (fields_at ts ns i)

  pub is_valid_at : Valid → ℕ → Bool
  is_valid_at non_nullable i = true
  is_valid_at all_valid i = true
  is_valid_at all_invalid i = false
  is_valid_at (by_array t) i = truth_of (row_at t i)

-- the rows of an array, in order
abbrev pub rows : Tree → List Row
rows t = map (row_at t) (range_with_len 0 (tree_len t))

-- the mask of a validity for n rows
abbrev pub valid_mask : Valid → ℕ → List Bool
valid_mask v n = map (is_valid_at v) (range_with_len 0 n)

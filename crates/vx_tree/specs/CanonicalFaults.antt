-- Why rows cannot be made plain: their elements cannot be counted, or their buffers not numbered.
use Rattle.std.specs.Prelude.{◌≡◌, ◌*◌, ◌^◌, ℕ, suc, List, [], ◌∷◌, length, map, count_by, Option, Some, None, nat_lt, if◌then◌else◌}
use Rattle.std.specs.List.{flat_map}
use Rattle.vx_base.specs.Kinds.{Kind, texts, binaries, lists, fixed_lists, records, Kinds, no_kinds, kind}
use Rattle.vx_base.specs.Refusals.{Refusal, overflow, or_else}
use Rattle.vx_base.specs.Rows.{Row}
use Rattle.vx_tree.specs.Tree.{Tree, bools, primitive, constant, dictionary, fixed_list, list_view, structure}
use Rattle.vx_tree.specs.Tree.{view_array, Trees, no_trees, tree}
use Rattle.vx_tree.specs.Meaning.{tree_len, kind_of}
use Rattle.vx_tree.specs.RowParts.{field_in, is_long_row, items_in, items_or_nulls}

-- so many buffers cannot be numbered
abbrev pub buffers_overflow : ℕ → Option Refusal
buffers_overflow count = if nat_lt (2 ^ 32) count then Some overflow else None

-- rows of a kind, made plain: the elements of lists of one size cannot be counted, or the long texts cannot be numbered
abbrev mutual
  pub rows_fault : Kind → List Row → Option Refusal
  rows_fault (texts m) rs = buffers_overflow (count_by is_long_row rs)
  rows_fault (binaries m) rs = buffers_overflow (count_by is_long_row rs)
  rows_fault (lists k m) rs = rows_fault k (flat_map items_in rs)
  rows_fault (fixed_lists k size m) rs =
      if nat_lt (length rs * size) (2 ^ 64) then rows_fault k (flat_map (items_or_nulls size) rs) else Some overflow
  rows_fault (records names ks m) rs = fields_fault ks 0 rs
  rows_fault _ rs = None

  -- of the fields from place c on
  pub fields_fault : Kinds → ℕ → List Row → Option Refusal
  fields_fault no_kinds c rs = None
  fields_fault (kind k ks) c rs = or_else (rows_fault k (map (field_in c) rs)) (fields_fault ks (suc c) rs)

-- what rows of a kind keep in plain layout, however often they stand: the elements of their lists cannot be made plain, or their long
-- texts cannot be numbered
abbrev mutual
  pub kept_fault : Kind → List Row → Option Refusal
  kept_fault (texts m) rs = buffers_overflow (count_by is_long_row rs)
  kept_fault (binaries m) rs = buffers_overflow (count_by is_long_row rs)
  kept_fault (lists k m) rs = rows_fault k (flat_map items_in rs)
  kept_fault (fixed_lists k size m) rs = kept_fault k (flat_map items_in rs)
  kept_fault (records names ks m) rs = kept_fields_fault ks 0 rs
  kept_fault _ rs = None

  -- of the fields from place c on
  pub kept_fields_fault : Kinds → ℕ → List Row → Option Refusal
  kept_fields_fault no_kinds c rs = None
  kept_fields_fault (kind k ks) c rs = or_else (kept_fault k (map (field_in c) rs)) (kept_fields_fault ks (suc c) rs)

-- n rows of a kind need more elements in plain layout than can be counted
abbrev mutual
  pub plain_overflow : Kind → ℕ → Option Refusal
  plain_overflow (fixed_lists k size m) n = if nat_lt (n * size) (2 ^ 64) then plain_overflow k (n * size) else Some overflow
  plain_overflow (records names ks m) n = fields_overflow ks n
  plain_overflow _ n = None

  pub fields_overflow : Kinds → ℕ → Option Refusal
  fields_overflow no_kinds n = None
  fields_overflow (kind k ks) n = or_else (plain_overflow k n) (fields_overflow ks n)

-- a row, n times: the elements of n rows cannot be counted, or what the row keeps, once
abbrev pub constant_fault : Kind → Row → ℕ → Option Refusal
constant_fault k r n = or_else (plain_overflow k n) (kept_fault k (r ∷ []))

-- the first fault of the parts; taking the values of a dictionary by its codes needs elements for each code
abbrev mutual
  pub canonical_fault : Tree → Option Refusal
  canonical_fault (bools b bits v) = None
  canonical_fault (primitive t bs v) = None
  canonical_fault (constant k r n) = constant_fault k r n
  canonical_fault (dictionary c v f) = or_else (canonical_fault v) (plain_overflow (kind_of v) (tree_len c))
  canonical_fault (fixed_list e k v n) = canonical_fault e
  canonical_fault (list_view e o s v f) = or_else (canonical_fault e) (or_else (canonical_fault o) (canonical_fault s))
  canonical_fault (structure ns ts v n) = columns_fault ts
  canonical_fault (view_array vs bs k v) = None

  pub columns_fault : Trees → Option Refusal
  columns_fault no_trees = None
  columns_fault (tree t ts) = or_else (canonical_fault t) (columns_fault ts)

-- the same of n rows in these layouts: constants and codes are then as many as these rows have
abbrev mutual
  pub rows_canonical_fault : Tree → ℕ → Option Refusal
  rows_canonical_fault (bools b bits v) n = None
  rows_canonical_fault (primitive t bs v) n = None
  rows_canonical_fault (constant k r m) n = constant_fault k r n
  rows_canonical_fault (dictionary c v f) n = or_else (canonical_fault v) (plain_overflow (kind_of v) n)
  rows_canonical_fault (fixed_list e k v m) n = rows_canonical_fault e (n * k)
  rows_canonical_fault (list_view e o s v f) n =
      or_else (canonical_fault e) (or_else (rows_canonical_fault o n) (rows_canonical_fault s n))
  rows_canonical_fault (structure ns ts v m) n = columns_canonical_fault ts n
  rows_canonical_fault (view_array vs bs k v) n = None

  pub columns_canonical_fault : Trees → ℕ → Option Refusal
  columns_canonical_fault no_trees n = None
  columns_canonical_fault (tree t ts) n = or_else (rows_canonical_fault t n) (columns_canonical_fault ts n)

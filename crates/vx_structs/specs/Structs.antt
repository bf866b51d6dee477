-- Records by columns: what they are made of, and what the calls on their columns give.
pub mod Records
pub mod Faults
use Rattle.std.specs.Prelude.{◌≡◌, ◌<◌, ℕ, Bool, true, List, [], ◌∷◌, ◌++◌, length, map, slice_get, if◌then◌else◌}
use Rattle.std.specs.Prelude.{Option, Some, None, MatchBool, IsSomeAnd}
use Rattle.std.specs.Borrow.{Bor}
use Rattle.std.specs.List.{AllZip, All, flat_map, remove}
use Rattle.std.specs.Option.{option_map}
use Rattle.vx_base.specs.Fields.{place_of_name}
use Rattle.vx_tree.specs.Tree.{Tree, structure, Trees, no_trees, tree, Valid, non_nullable}
use Rattle.vx_tree.specs.Meaning.{tree_len, kind_of, rows, trees_from}
use Rattle.vx_tree.specs.Extents.{extent_of, joined_extent}
use Rattle.vx_canonical.specs.Joined.{column_of, joined_state}
use Rattle.vx_tree.specs.Operations.{IsNulled}
use Rattle.vx_tree.specs.Plain.{IsPlain}
use Rattle.vx_tree.specs.Shapes.{state_of, tree_state}
use Rattle.vx_tree.specs.Validities.{is_full_state}
use Rattle.vx_tree.specs.Slots.{validity_of}
use Rattle.vx_structs.specs.Structs.Records.{pushed, pushed_kind}
pub use Rattle.vx_tree.specs.Layouts.{is_struct}

-- ---- the parts

-- columns, as a list
abbrev pub column_list : Trees → List Tree
column_list no_trees = []
column_list (tree t ts) = t ∷ column_list ts

abbrev pub names_of : Tree → List (List ℕ)
names_of (structure ns ts v n) = ns
names_of _ = []

abbrev pub columns_of : Tree → List Tree
columns_of (structure ns ts v n) = column_list ts
columns_of _ = []

-- records of so many rows by their names, their columns and their validity
abbrev pub records_by : List (List ℕ) → List Tree → Valid → ℕ → Tree
records_by names columns v n = structure names (trees_from columns) v n

-- as many records with other columns under other names, null where they were
abbrev pub with_columns : Tree → List (List ℕ) → List Tree → Tree
with_columns t names columns = records_by names columns (validity_of t) (tree_len t)

-- how many rows the first column has
abbrev pub first_len : List Tree → ℕ
first_len [] = 0
first_len (t ∷ ts) = tree_len t

-- records by columns that come with their names, as many as the first column has rows
abbrev pub named_columns : List (Bor (List ℕ) × Tree) → Valid → Tree
named_columns fields v =
    records_by (map (λ field. field.0.now) fields) (map (λ field. field.1) fields) v (first_len (map (λ field. field.1) fields))

-- the column at a place, if there is one
abbrev pub column_at_place : List Tree → Option ℕ → Option Tree
column_at_place columns None = None
column_at_place columns (Some i) = slice_get columns i

-- the first column of a name, if there is one
abbrev pub column_named : Tree → List ℕ → Option Tree
column_named t name = column_at_place (columns_of t) (place_of_name (names_of t) name)

-- ---- choosing, adding and removing columns

-- the first column of each of these names
abbrev pub AreNamed : Tree → List (List ℕ) → List Tree → Type 0
AreNamed t names columns = map Some columns ≡ map (column_named t) names

abbrev pub IsProjected : Tree → List (List ℕ) → Tree → Type 0
IsProjected t names r = (columns : List Tree) × AreNamed t names columns × (r ≡ with_columns t names columns)

-- one column more, the last
abbrev pub added : Tree → List ℕ → Tree → Tree
added t name column = with_columns t (names_of t ++ name ∷ []) (columns_of t ++ column ∷ [])

-- without the column at a place, which stands beside it
abbrev pub removed_at : Tree → Option ℕ → Option (Tree × Tree)
removed_at t None = None
removed_at t (Some i) =
    option_map (λ column. (with_columns t (remove (names_of t) i) (remove (columns_of t) i), column)) (slice_get (columns_of t) i)

-- without the first column of a name, if there is one
abbrev pub removed : Tree → List ℕ → Option (Tree × Tree)
removed t name = removed_at t (place_of_name (names_of t) name)

-- ---- arrays of records, one after another

-- the arrays that are lent
abbrev pub arrays_of : List (Bor Tree) → List Tree
arrays_of arrays = map (λ a. a.now) arrays

-- the records of arrays, one array after another; so each column is that column of all of them
pub record AreConcatenated (ts : List Tree) (r : Tree) : Type 0 where
  pub kind : All (λ t. kind_of t ≡ kind_of r) ts
  pub same_rows : rows r ≡ flat_map rows ts
  pub columns : (k : ℕ) → k < length (columns_of r) → rows (column_of k r) ≡ flat_map (λ t. rows (column_of k t)) ts
  pub state : tree_state r ≡ joined_state ts
  pub extent : extent_of r ≡ joined_extent (kind_of r) (map extent_of ts)
  pub plain : IsPlain r

-- ---- nulls of records, pushed into their columns

-- a column, null by the validity of records; where by its state no record is null it stays
abbrev pub IsPushedColumn : Valid → Tree → Tree → Type 0
IsPushedColumn v c d = MatchBool (is_full_state (state_of v)) (d ≡ c) (IsNulled c v d)

-- the first column of a name, null by the validity of the records
abbrev pub IsField : Tree → List ℕ → Tree → Type 0
IsField t name r = IsSomeAnd (column_named t name) (λ c. IsPushedColumn (validity_of t) c r)

-- columns, null by the validity of records; where by its state no record is null they stay
abbrev pub ArePushed : Valid → List Tree → List Tree → Type 0
ArePushed v columns made =
    MatchBool (is_full_state (state_of v)) (made ≡ columns) (AllZip (λ c d. IsNulled c v d) columns made)

-- the validity stays, or no record may be null
abbrev pub pushed_validity : Bool → Valid → Valid
pushed_validity remove v = if remove then non_nullable else v

pub record IsPushed (t : Tree) (remove : Bool) (r : Tree) : Type 0 where
  pub is_records : is_struct r ≡ true
  pub names : names_of r ≡ names_of t
  pub columns : ArePushed (validity_of t) (columns_of t) (columns_of r)
  pub validity : validity_of r ≡ pushed_validity remove (validity_of t)
  pub len : tree_len r ≡ tree_len t
  pub kind : kind_of r ≡ pushed_kind (is_full_state (tree_state t)) remove (kind_of t)
  pub same_rows : rows r ≡ pushed (names_of t) remove (rows t)

-- Every row of an array fits the array's kind.
use Rattle.std.specs.Prelude.{◌≡◌, ◌<◌, ◌≤◌, ◌^◌, ℕ, List, [], length, None, slice_index_or}
use Rattle.vx_base.specs.Kinds.{Kind, Fits}
use Rattle.vx_base.specs.Bytes.{AreBytes}
use Rattle.vx_views.specs.Views.{IsView, buffer_at}
use Rattle.vx_tree.specs.Tree.{Tree, bools, primitive, constant, dictionary, fixed_list, list_view, structure}
use Rattle.vx_tree.specs.Tree.{view_array, Trees, no_trees, tree, Valid, by_array}
use Rattle.vx_tree.specs.Meaning.{tree_len, kind_of, row_at}
use Rattle.vx_tree.specs.Formed.{WellFormed}
use Rattle.vx_tree.specs.Faults.{take_overflow}
use Rattle.vx_tree.specs.CanonicalFaults.{canonical_fault, rows_canonical_fault}

-- each view has 16 bytes, and each buffer has bytes
pub record AreViews (views buffers : List (List ℕ)) : Type 0 where
  pub each_view : (i : ℕ) → i < length views → IsView (slice_index_or views i [])
  pub each_buffer : (block : ℕ) → AreBytes (buffer_at buffers block)

-- well formed at every depth, with bytes that are bytes, and no more elements of lists of one size than can be counted
abbrev mutual
  pub AllFormed : Tree → Type 0
  AllFormed (bools b bits v) = WellFormed (bools b bits v) × ValidityFormed v
  AllFormed (primitive t bs v) = WellFormed (primitive t bs v) × AreBytes bs × ValidityFormed v
  AllFormed (constant k r n) = WellFormed (constant k r n)
  AllFormed (dictionary c v f) = WellFormed (dictionary c v f) × AllFormed c × AllFormed v
  AllFormed (fixed_list e k v n) = WellFormed (fixed_list e k v n) × AllFormed e × ValidityFormed v × (tree_len e < 2 ^ 64)
  AllFormed (list_view e o s v f) = WellFormed (list_view e o s v f) × AllFormed e × AllFormed o × AllFormed s × ValidityFormed v
  AllFormed (structure ns ts v n) = WellFormed (structure ns ts v n) × ColumnsFormed ts × ValidityFormed v
  AllFormed (view_array vs bs k v) = WellFormed (view_array vs bs k v) × AreViews vs bs × ValidityFormed v

  pub ColumnsFormed : Trees → Type 0
  ColumnsFormed no_trees = Unit {0}
  ColumnsFormed (tree t ts) = AllFormed t × ColumnsFormed ts

  pub ValidityFormed : Valid → Type 0
  ValidityFormed (by_array t) = AllFormed t
  ValidityFormed _ = Unit {0}

-- what an array keeps beside its parts: their length, which a machine word holds, and their kind
pub record IsKept (t : Tree) (len : ℕ) (kind : Kind) : Type 0 where
  pub same_len : len ≡ tree_len t
  pub short : len < 2 ^ 64
  pub same_kind : kind ≡ kind_of t
  pub formed : AllFormed t

-- of an array that is well formed at every depth each row fits the kind
abbrev pub RowsFit : Type 0
RowsFit = (t : Tree) → AllFormed t → (i : ℕ) → i < tree_len t → Fits (kind_of t) (row_at t i)

-- of an array that is well formed at every depth, no more rows than it has can be counted at each depth
abbrev pub FewerAreCountable : Type 0
FewerAreCountable = (t : Tree) → AllFormed t → (n : ℕ) → n ≤ tree_len t → take_overflow t n ≡ None

-- as many rows as it has have the fault of the array where they are made plain
abbrev pub AsManyAreAsFaulty : Type 0
AsManyAreAsFaulty = (t : Tree) → AllFormed t → rows_canonical_fault t (tree_len t) ≡ canonical_fault t

-- where so many rows can be made plain, fewer can
abbrev pub FewerCanBePlain : Type 0
FewerCanBePlain = (t : Tree) (m n : ℕ) → m ≤ n → rows_canonical_fault t n ≡ None → rows_canonical_fault t m ≡ None

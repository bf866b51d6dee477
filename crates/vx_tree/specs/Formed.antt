-- What is true of the parts of every array.
use Rattle.std.specs.Prelude.{◌≡◌, ◌≤◌, ◌<◌, ◌+◌, ◌*◌, ℕ, Bool, true, false, IsTrue, List, [], length, pos, Some}
use Rattle.std.specs.Prelude.{replicate, slice_index_or}
use Rattle.std.proofs.Common.{arith}
use Rattle.vx_base.specs.Integers.{byte_width, numbers}
use Rattle.vx_base.specs.Rows.{Row, null, whole, count_in, position_in}
use Rattle.vx_base.specs.Kinds.{Kind, booleans, texts, binaries, is_integers, is_plain_integers, Fits}
use Rattle.vx_views.specs.Sound.{IsSoundView}
use Rattle.vx_tree.specs.Tree.{Tree, bools, primitive, constant, dictionary, fixed_list, list_view, structure}
use Rattle.vx_tree.specs.Tree.{view_array, Trees, no_trees, tree, Valid, non_nullable, all_valid, all_invalid}
use Rattle.vx_tree.specs.Tree.{by_array}
use Rattle.vx_tree.specs.Meaning.{tree_len, kind_of, row_at, is_valid_at, nullable, is_texts}

-- a validity array of n rows: plain booleans, in any layout
pub record IsMask (t : Tree) (n : ℕ) : Type 0 where
  pub len : tree_len t ≡ n
  pub kind : kind_of t ≡ booleans false

-- the validity is that of n rows
abbrev pub ValidFits : Valid → ℕ → Type 0
ValidFits (by_array t) n = IsMask t n
ValidFits _ n = Unit {0}

-- a validity array, of whatever kind, has n rows
abbrev pub IsLenOf : Valid → ℕ → Type 0
IsLenOf (by_array t) n = tree_len t ≡ n
IsLenOf _ n = Unit {0}

-- the validity is that of more than i rows
abbrev pub ValidReads : Valid → ℕ → Type 0
ValidReads (by_array t) i = (kind_of t ≡ booleans false) × (i < tree_len t)
ValidReads _ i = Unit {0}

-- the validity is that of n rows or more
abbrev pub ValidCovers : Valid → ℕ → Type 0
ValidCovers (by_array t) n = (kind_of t ≡ booleans false) × (n ≤ tree_len t)
ValidCovers _ n = Unit {0}

pub ValidReads-from_fits : (v : Valid) (n i : ℕ) → ValidFits v n → i < n → ValidReads v i
ValidReads-from_fits non_nullable n i h k = tt
ValidReads-from_fits all_valid n i h k = tt
ValidReads-from_fits all_invalid n i h k = tt
ValidReads-from_fits (by_array t) n i h k = (h.kind, omega (arith, h.len))

pub ValidCovers-from_fits : (v : Valid) (n k : ℕ) → ValidFits v n → k ≤ n → ValidCovers v k
ValidCovers-from_fits non_nullable n k h l = tt
ValidCovers-from_fits all_valid n k h l = tt
ValidCovers-from_fits all_invalid n k h l = tt
ValidCovers-from_fits (by_array t) n k h l = (h.kind, omega (arith, h.len))

-- an array of counts: plain integers, none of them negative, in any layout
pub record IsCounts (t : Tree) : Type 0 where
  pub kind : is_plain_integers (kind_of t) ≡ true
  pub counts : (i : ℕ) → i < tree_len t → row_at t i ≡ whole (pos (count_in (row_at t i)))

-- each list ends where the next one begins, null rows counted
abbrev pub IsConsecutive : Tree → Tree → Type 0
IsConsecutive o s = (i : ℕ) → i + 1 < tree_len o → count_in (row_at o i) + count_in (row_at s i) ≡ count_in (row_at o (i + 1))

-- offsets and sizes are counts, as many of one as of the other, every list (null rows too) ends within the elements, and
-- a set flag says that the lists are consecutive
pub record IsListView (e o s : Tree) (flag : Bool) : Type 0 where
  pub offsets : IsCounts o
  pub sizes : IsCounts s
  pub same_len : tree_len s ≡ tree_len o
  pub within : (i : ℕ) → i < tree_len o → count_in (row_at o i) + count_in (row_at s i) ≤ tree_len e
  pub follows : IsTrue flag → IsConsecutive o s

-- null, or the position of one of n values
abbrev pub IsCode : ℕ → Row → Type 0
IsCode n null = Unit {0}
IsCode n (whole (pos k)) = k < n
IsCode n _ = ⊥

-- every value position is some valid code
abbrev pub ReferencesAll : Tree → Tree → Type 0
ReferencesAll c v = (j : ℕ) → j < tree_len v → (i : ℕ) × (i < tree_len c) × (position_in (row_at c i) ≡ Some j)

-- codes are integers, each valid one is the position of a value, and a set flag says that every value is referenced
pub record IsDictionary (c v : Tree) (flag : Bool) : Type 0 where
  pub codes : is_integers (kind_of c) ≡ true
  pub within : (i : ℕ) → i < tree_len c → IsCode (tree_len v) (row_at c i)
  pub referenced : IsTrue flag → ReferencesAll c v

-- each column has n rows
abbrev pub AllLen : ℕ → Trees → Type 0
AllLen n no_trees = Unit {0}
AllLen n (tree t ts) = (tree_len t ≡ n) × AllLen n ts

abbrev pub column_count : Trees → ℕ
column_count no_trees = 0
column_count (tree t ts) = column_count ts + 1

-- one column a name, every column as long as the records
pub record IsStruct (names : List (List ℕ)) (columns : Trees) (n : ℕ) : Type 0 where
  pub named : length names ≡ column_count columns
  pub lens : AllLen n columns

-- a kind of texts or of binaries, under which null may stand where n says so
abbrev pub value_kind : Bool → Bool → Kind
value_kind true n = texts n
value_kind false n = binaries n

-- texts or binaries, nullable exactly where the validity is; every valid view is sound, and the view of a null row is
-- 16 zero bytes
pub record IsViewArray (views buffers : List (List ℕ)) (k : Kind) (v : Valid) : Type 0 where
  pub kind : k ≡ value_kind (is_texts k) (nullable v)
  pub sound : (i : ℕ) → i < length views → is_valid_at v i ≡ true → IsSoundView buffers (is_texts k) (slice_index_or views i [])
  pub zeroes : (i : ℕ) → i < length views → is_valid_at v i ≡ false → slice_index_or views i [] ≡ replicate 16 0

-- the parts of each layout
abbrev pub WellFormed : Tree → Type 0
WellFormed (bools b bits v) = ValidFits v (length bits)
WellFormed (primitive t bs v) = ValidFits v (length (numbers t bs)) × (length bs ≡ length (numbers t bs) * byte_width t)
WellFormed (constant k r n) = Fits k r
WellFormed (dictionary c v f) = IsDictionary c v f
WellFormed (fixed_list e k v n) = ValidFits v n × (tree_len e ≡ n * k)
WellFormed (list_view e o s v f) = ValidFits v (tree_len o) × IsListView e o s f
WellFormed (structure ns ts v n) = ValidFits v n × IsStruct ns ts n
WellFormed (view_array vs bs k v) = ValidFits v (length vs) × IsViewArray vs bs k v

pub ruleset valid_reads = (ValidReads-from_fits, ValidCovers-from_fits)

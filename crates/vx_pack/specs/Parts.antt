-- Parts of columns: rows, one after another.
use Rattle.std.specs.Prelude.{◌≡◌, ◌<◌, ◌≤◌, ◌+◌, ◌^◌, ℕ, true, min, List, Option, None, length, slice_index_or}
use Rattle.vx_base.specs.Kinds.{Kind, Fits, integer_type, is_integers}
use Rattle.vx_base.specs.Rows.{Row}
use Rattle.vx_base.specs.declared.ptypes.PType.{PType}
use Rattle.vx_base.specs.ValueRows.{row_under}
use Rattle.vx_base.specs.declared.scalar_value.ScalarValue.{ScalarValue}
use Rattle.vx_tree.specs.Meaning.{kind_of, row_at, tree_len}
use Rattle.vx_tree.specs.Tree.{Tree}
use Rattle.vx_pack.specs.declared.parts.Part.{Part}
use Rattle.vx_pack.specs.declared.parts.Part.TheVariants as part

-- how many rows there are
abbrev pub part_len : Part → ℕ
part_len (part.Array a start n) = n
part_len (part.Values vs) = length vs.now

-- row i, of a kind
abbrev pub part_row : Kind → Part → ℕ → Row
part_row k (part.Array a start n) i = row_at a.now (start + i)
part_row k (part.Values vs) i = row_under k (slice_index_or vs.now i None)

-- the rows stand there
abbrev pub IsWithin : Part → Type 0
IsWithin (part.Array a start n) = (start + n ≤ tree_len a.now) × (tree_len a.now < 2 ^ 64)
IsWithin (part.Values vs) = length vs.now < 2 ^ 64

-- an array is of the kind
abbrev pub HasKind : Kind → Part → Type 0
HasKind k (part.Array a start n) = kind_of a.now ≡ k
HasKind k (part.Values vs) = Unit {0}

-- an array is one of integers
abbrev pub AreNumbers : Part → Type 0
AreNumbers (part.Array a start n) = is_integers (kind_of a.now) ≡ true
AreNumbers (part.Values vs) = Unit {0}

-- an array of integers has this type
abbrev pub HasType : PType → Part → Type 0
HasType t (part.Array a start n) = integer_type (kind_of a.now) ≡ t
HasType t (part.Values vs) = Unit {0}

-- rows of a kind
pub record IsPart (k : Kind) (p : Part) : Type 0 where
  pub within : IsWithin p
  pub kind : HasKind k p
  pub fits : (i : ℕ) → i < part_len p → Fits k (part_row k p i)

-- so many rows of an array, from one on
pub record IsPartOf (t : Tree) (start n : ℕ) (p : Part) : Type 0 where
  pub part : IsPart (kind_of t) p
  pub len : part_len p ≡ n
  pub rows : (k : Kind) (i : ℕ) → part_row k p i ≡ row_at t (start + i)

-- the rows that values stand for
pub record AreValuesOf (vs : List (Option ScalarValue)) (p : Part) : Type 0 where
  pub within : IsWithin p
  pub kind : (k : Kind) → HasKind k p
  pub len : part_len p ≡ length vs
  pub rows : (k : Kind) (i : ℕ) → part_row k p i ≡ row_under k (slice_index_or vs i None)

-- all rows are one
abbrev pub AreAllOne : Kind → Part → Type 0
AreAllOne k p = (i : ℕ) → part_row k p i ≡ part_row k p 0

-- the first row, where there is one
pub record IsFirstOf (p q : Part) : Type 0 where
  pub len : part_len q ≡ min (part_len p) 1
  pub row : (k : Kind) → 0 < part_len p → part_row k q 0 ≡ part_row k p 0
  pub part : (k : Kind) → IsPart k p → IsPart k q

-- the same of each row, by a function of it
abbrev pub AreSameBy : {A : Type 0} → (Row → A) → Kind → Part → Part → Type 0
AreSameBy f k p q = (i : ℕ) → i < part_len p → f (part_row k p i) ≡ f (part_row k q i)

-- the same rows, one by one
abbrev pub AreSame : Kind → Part → Part → Type 0
AreSame k p q = (i : ℕ) → i < part_len p → part_row k p i ≡ part_row k q i

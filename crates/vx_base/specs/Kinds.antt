-- The meaning of data types, and which rows they take.
use Rattle.std.specs.Prelude.{◌≡◌, ◌≤◌, ◌^◌, refl, ℕ, Bool, true, false, IsTrue, List, [], ◌∷◌, ◌||◌, ◌-◌, ◌+◌, length, IsUtf8}
use Rattle.vx_base.specs.Bytes.{AreBytes}
use Rattle.vx_base.specs.Integers.{Holds}
use Rattle.vx_base.specs.Rows.{Row, null, boolean, whole, bytes, text, items, record_of, Rows, no_rows, row, Fields, no_fields, field}
use Rattle.vx_base.specs.declared.ptypes.PType.{PType}
use Rattle.vx_base.specs.declared.ptypes.PType.TheVariants.{U8}

-- a data type with no pointers; its truth value, the last part, says whether null may stand under it
mutual
  pub data Kind : Type 0 where
    booleans : Bool → Kind
    integers : PType → Bool → Kind
    texts : Bool → Kind
    binaries : Bool → Kind
    lists : Kind → Bool → Kind
    fixed_lists : Kind → ℕ → Bool → Kind
    records : List (List ℕ) → Kinds → Bool → Kind

  pub data Kinds : Type 0 where
    no_kinds : Kinds
    kind : Kind → Kinds → Kinds

-- kinds, one after another
abbrev pub kinds_from : List Kind → Kinds
kinds_from [] = no_kinds
kinds_from (k ∷ ks) = kind k (kinds_from ks)

-- null may stand under it
abbrev pub is_nullable_kind : Kind → Bool
is_nullable_kind (booleans n) = n
is_nullable_kind (integers t n) = n
is_nullable_kind (texts n) = n
is_nullable_kind (binaries n) = n
is_nullable_kind (lists k n) = n
is_nullable_kind (fixed_lists k size n) = n
is_nullable_kind (records names ks n) = n

-- the same kind, under which null may stand where c says so, or stood already
abbrev pub or_nullable : Bool → Kind → Kind
or_nullable c (booleans n) = booleans (c || n)
or_nullable c (integers t n) = integers t (c || n)
or_nullable c (texts n) = texts (c || n)
or_nullable c (binaries n) = binaries (c || n)
or_nullable c (lists k n) = lists k (c || n)
or_nullable c (fixed_lists k size n) = fixed_lists k size (c || n)
or_nullable c (records names ks n) = records names ks (c || n)

-- the same kind, under which null may stand just where c says so
abbrev pub with_nullable : Bool → Kind → Kind
with_nullable c (booleans n) = booleans c
with_nullable c (integers t n) = integers t c
with_nullable c (texts n) = texts c
with_nullable c (binaries n) = binaries c
with_nullable c (lists k n) = lists k c
with_nullable c (fixed_lists k size n) = fixed_lists k size c
with_nullable c (records names ks n) = records names ks c

-- the integer type of a kind of integers (of another kind, U8)
abbrev pub integer_type : Kind → PType
integer_type (integers t n) = t
integer_type _ = U8

-- a kind of integers
abbrev pub is_integers : Kind → Bool
is_integers (integers t n) = true
is_integers _ = false

-- a kind of records
abbrev pub is_records : Kind → Bool
is_records (records names ks n) = true
is_records _ = false

-- the kind of plain booleans, none of them null
abbrev pub is_plain_booleans : Kind → Bool
is_plain_booleans (booleans false) = true
is_plain_booleans _ = false

-- the kind of plain integers, none of them null
abbrev pub is_plain_integers : Kind → Bool
is_plain_integers (integers t false) = true
is_plain_integers _ = false

-- how many rows a list row has
abbrev pub row_count : Rows → ℕ
row_count no_rows = 0
row_count (row r rs) = row_count rs + 1

-- a byte list short enough for a view
abbrev pub IsShort : List ℕ → Type 0
IsShort bs = length bs ≤ 2 ^ 32 - 1

-- a row fits a kind: it is of that kind, numbers lie in the range of their type, lists of a fixed size have that size,
-- records have the names in order, inner rows fit inner kinds, texts are UTF-8, byte lists are bytes, both are short,
-- and null stands only where it may
abbrev mutual
  pub Fits : Kind → Row → Type 0
  Fits k null = IsTrue (is_nullable_kind k)
  Fits (booleans n) (boolean b) = Unit {0}
  Fits (integers t n) (whole z) = Holds t z
  Fits (texts n) (text bs) = IsUtf8 bs × IsShort bs
  Fits (binaries n) (bytes bs) = AreBytes bs × IsShort bs
  Fits (lists k n) (items rs) = AllFit k rs
  Fits (fixed_lists k size n) (items rs) = (row_count rs ≡ size) × AllFit k rs
  Fits (records names ks n) (record_of fs) = FieldsFit names ks fs
  Fits _ _ = ⊥

  pub AllFit : Kind → Rows → Type 0
  AllFit k no_rows = Unit {0}
  AllFit k (row r rs) = Fits k r × AllFit k rs

  pub FieldsFit : List (List ℕ) → Kinds → Fields → Type 0
  FieldsFit [] no_kinds no_fields = Unit {0}
  FieldsFit (n ∷ ns) (kind k ks) (field m r fs) = (n ≡ m) × Fits k r × FieldsFit ns ks fs
  FieldsFit _ _ _ = ⊥

-- making a kind nullable keeps it a kind of integers
pub is_integers-or_nullable : (c : Bool) (k : Kind) → is_integers (or_nullable c k) ≡ is_integers k
is_integers-or_nullable c (booleans n) = refl
is_integers-or_nullable c (integers t n) = refl
is_integers-or_nullable c (texts n) = refl
is_integers-or_nullable c (binaries n) = refl
is_integers-or_nullable c (lists k n) = refl
is_integers-or_nullable c (fixed_lists k size n) = refl
is_integers-or_nullable c (records names ks n) = refl

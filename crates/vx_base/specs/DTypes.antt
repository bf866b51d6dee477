-- What a data type means.
use Rattle.std.specs.Prelude.{◌≡◌, ℕ, Bool, true, false, List, [], ◌∷◌, map, refl}
use Rattle.std.proofs.Common.{ap, ◌∙◌}
use Rattle.vx_base.specs.declared.nullability.Nullability.{Nullability}
use Rattle.vx_base.specs.declared.nullability.Nullability.TheVariants.{NonNullable, Nullable}
use Rattle.vx_base.specs.declared.dtypes.DType.{DType, Struct as struct_dtype, Row_of-DType, end_of-DType, more_of-DType}
use Rattle.vx_base.specs.declared.dtypes.DType.{items-the_row-DType, items_hidden-the_row-DType-0}
use Rattle.vx_base.specs.declared.dtypes.DType.TheBlock.{hidden-the_row-DType-0, shape-the_row-DType-0}
use Rattle.vx_base.specs.declared.struct_fields.StructFields.{StructFields}
use Rattle.vx_base.specs.NamedItems.{names_in, items_in}
use Rattle.vx_base.specs.Kinds.{Kind, booleans, integers, texts, binaries, lists, fixed_lists, records, Kinds, no_kinds, kind, kinds_from}

abbrev pub is_nullable : Nullability → Bool
is_nullable NonNullable = false
is_nullable Nullable = true

-- the kind of rows that a data type says
abbrev mutual
  pub dtype_meaning : DType → Kind
  dtype_meaning (DType.Bool n) = booleans (is_nullable n)
  dtype_meaning (DType.Primitive t n) = integers t (is_nullable n)
  dtype_meaning (DType.Utf8 n) = texts (is_nullable n)
  dtype_meaning (DType.Binary n) = binaries (is_nullable n)
  dtype_meaning (DType.List' p d n) = lists (dtype_meaning d) (is_nullable n)
  dtype_meaning (DType.FixedSizeList' p d size n) = fixed_lists (dtype_meaning d) size (is_nullable n)
  dtype_meaning (DType.Struct' names dtypes n) = records (names_in names) (row_kinds dtypes) (is_nullable n)

  -- the kinds of the data types that stand in a record's
  pub row_kinds : {m : _} → Row_of-DType m → Kinds
  row_kinds end_of-DType = no_kinds
  row_kinds (more_of-DType d r) = kind (dtype_meaning d) (row_kinds r)

-- the kinds of data types
abbrev pub kinds_of : List DType → Kinds
kinds_of ds = kinds_from (map dtype_meaning ds)

-- the names and the kinds of fields, in order
abbrev pub field_names : StructFields → List (List ℕ)
field_names fs = names_in fs.named

abbrev pub field_kinds : StructFields → Kinds
field_kinds fs = kinds_of (items_in fs.named)

row_kinds-items : (m : _) (r : Row_of-DType m) → row_kinds r ≡ kinds_of (items-the_row-DType m r)
row_kinds-items m end_of-DType = refl
row_kinds-items m (more_of-DType d r) = ap (kind (dtype_meaning d)) (row_kinds-items _ r)

abbrev bare : List ℕ × DType → List ℕ × Unit {0}
bare n = (n.0, tt)

names_in-bare : (ns : List (List ℕ × DType)) → names_in (map bare ns) ≡ names_in ns
names_in-bare [] = refl
names_in-bare (n ∷ ns) = ap (λ ms. n.0 ∷ ms) (names_in-bare ns)

-- a record's kind is read at the list of its data types
pub dtype_meaning-Struct : (fs : StructFields) (n : Nullability)
    → dtype_meaning (struct_dtype fs n) ≡ records (field_names fs) (field_kinds fs) (is_nullable n)
unfolding shape-the_row-DType-0
dtype_meaning-Struct fs n =
    λ i. records (names_in-bare fs.named i)
    ((row_kinds-items _ (hidden-the_row-DType-0 fs.named) ∙ ap kinds_of (items_hidden-the_row-DType-0 fs.named)) i) (is_nullable n)

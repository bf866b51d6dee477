-- The default of a kind fits it, and is what its parts' defaults make.
use Rattle.std.proofs.Common.{◌≡◌, ◌∙◌, ◌+◌, ◌<◌, ◌&&◌, ◌++◌, sym, ap, subst, refl, arith, List, [], ◌∷◌, ℕ, zero, suc, pos, Bool, true, false, length, take, map, replicate, slice_index_or, Option, Some, add-one}
use Rattle.vx_base.proofs.StructKinds.{struct_kind}
use Rattle.vx_base.specs.Kinds.{Kind, booleans, integers, texts, binaries, lists, fixed_lists, records, Kinds, no_kinds, kind, is_nullable_kind, Fits, AllFit, FieldsFit, row_count}
use Rattle.vx_base.specs.Rows.{Row, items, record_of, Rows, row, rows_from, field}
use Rattle.vx_base.specs.Defaults.{default_row, default_fields, is_even, even_fields}
use Rattle.vx_base.specs.ValueRows.{option_row, row_under, all_named, fields_named, unnamed}
use Rattle.vx_base.specs.DTypes.{dtype_meaning, row_kinds, field_names, field_kinds, kinds_of}
use Rattle.vx_base.specs.NamedItems.{names_in}
use mathlib.Core.Former.{Count, none_left, one_more, const, pair, this, list_count}
use Rattle.vx_base.specs.declared.dtypes.DType.{DType, Struct as struct_dtype, Row_of-DType, end_of-DType, more_of-DType}
use Rattle.vx_base.specs.declared.nullability.Nullability.{Nullability}
use Rattle.vx_base.specs.declared.struct_fields.StructFields.{StructFields}
use Rattle.vx_base.specs.declared.scalar_value.ScalarValue.TheVariants as value
use Rattle.vx_base.specs.declared.ptypes.PType.{PType}
use Rattle.vx_base.specs.declared.ptypes.PType.TheVariants.{U8, U16, U32, U64, I8, I16, I32, I64}
use Rattle.vx_base.specs.Integers.{Holds}
use Rattle.std.proofs.lemmas.Str.{IsUtf8-nil}
use Rattle.vx_base.specs.declared.scalar_value.ScalarValue.{ScalarValue}
use Rattle.std.specs.List.{AllZip}

both : (a b : Bool) → (a && b) ≡ true → (a ≡ true) × (b ≡ true)
both true true p = (refl, refl)
both true false p = cc
both false true p = cc
both false false p = cc

-- ---- lists of one row

pub repeated_fit : (k : Kind) (r : Row) (n : ℕ) → Fits k r → AllFit k (rows_from (replicate n r))
repeated_fit k r zero h = tt
repeated_fit k r (suc n) h = (h, repeated_fit k r n h)

pub repeated_count : (r : Row) (n : ℕ) → row_count (rows_from (replicate n r)) ≡ n
repeated_count r zero = refl
repeated_count r (suc n) = omega (arith, repeated_count r n)

pub repeated_named : (k : Kind) (v : Option ScalarValue) (r : Row) (n : ℕ) → (Fits k r → row_under k v ≡ r) → AllFit k (rows_from (replicate n r))
    → all_named k (rows_from (map option_row (replicate n v))) ≡ rows_from (replicate n r)
repeated_named k v r zero same fits = refl
repeated_named k v r (suc n) same fits = λ i. row (same fits.0 i) (repeated_named k v r n same fits.1 i)

-- ---- the fields of records

pub defaults_named : (ns : List (List ℕ)) (ds : List DType) (vs : List (Option ScalarValue)) → FieldsFit ns (kinds_of ds) (default_fields ns (kinds_of ds))
    → AllZip (λ d v. Fits (dtype_meaning d) (default_row (dtype_meaning d)) → row_under (dtype_meaning d) v ≡ default_row (dtype_meaning d)) ds vs
    → fields_named ns (kinds_of ds) (unnamed (rows_from (map option_row vs))) ≡ default_fields ns (kinds_of ds)
defaults_named [] [] [] fit all = refl
defaults_named [] [] (v ∷ vs) fit all = absurd all
defaults_named [] (d ∷ ds) vs fit all = absurd fit
defaults_named (n ∷ ns) [] vs fit all = absurd fit
defaults_named (n ∷ ns) (d ∷ ds) [] fit all = absurd all
defaults_named (n ∷ ns) (d ∷ ds) (v ∷ vs) fit all =
    λ i. field n (all.0 fit.1 i) (defaults_named ns ds vs fit.2 all.1 i)

-- ---- defaults fit

zero_held : (t : PType) → Holds t (pos 0)
zero_held U8 = (omega arith, omega arith)
zero_held U16 = (omega arith, omega arith)
zero_held U32 = (omega arith, omega arith)
zero_held U64 = (omega arith, omega arith)
zero_held I8 = (omega arith, omega arith)
zero_held I16 = (omega arith, omega arith)
zero_held I32 = (omega arith, omega arith)
zero_held I64 = (omega arith, omega arith)

mutual
  pub default_fits : (k : Kind) → is_even k ≡ true → Fits k (default_row k)
  default_fits (booleans true) even = refl
  default_fits (booleans false) even = tt
  default_fits (integers t true) even = refl
  default_fits (integers t false) even = zero_held t
  default_fits (texts true) even = refl
  default_fits (texts false) even = (IsUtf8-nil, omega arith)
  default_fits (binaries true) even = refl
  default_fits (binaries false) even = ((λ i. omega arith), omega arith)
  default_fits (lists k true) even = refl
  default_fits (lists k false) even = tt
  default_fits (fixed_lists k size true) even = refl
  default_fits (fixed_lists k size false) even = (repeated_count (default_row k) size, repeated_fit k (default_row k) size (default_fits k even))
  default_fits (records names ks true) even = refl
  default_fits (records names ks false) even = default_fields_fit names ks even

  default_fields_fit : (ns : List (List ℕ)) (ks : Kinds) → even_fields ns ks ≡ true → FieldsFit ns ks (default_fields ns ks)
  default_fields_fit [] no_kinds even = tt
  default_fields_fit [] (kind k ks) even = cc
  default_fields_fit (n ∷ ns) no_kinds even = cc
  default_fields_fit (n ∷ ns) (kind k ks) even =
      let each = both (is_even k) (even_fields ns ks) even in
      (refl, default_fits k each.0, default_fields_fit ns ks each.1)

-- ---- each record in a data type has as many names as data types

abbrev item_count : List (List ℕ × Unit {0}) → Count
item_count ns = list_count (pair (const (List ℕ)) this) ns none_left

even_and : (k : Kind) (ns : List (List ℕ)) (ks : Kinds) → is_even k ≡ true → even_fields ns ks ≡ true → (is_even k && even_fields ns ks) ≡ true
even_and k ns ks p q = ap (λ x. x && even_fields ns ks) p ∙ q

abbrev one_less : Count → Count
one_less none_left = none_left
one_less (one_more n) = n

mutual
  pub dtype_even : (d : DType) → is_even (dtype_meaning d) ≡ true
  dtype_even (DType.Bool n) = refl
  dtype_even (DType.Primitive t n) = refl
  dtype_even (DType.Utf8 n) = refl
  dtype_even (DType.Binary n) = refl
  dtype_even (DType.List' p d n) = dtype_even d
  dtype_even (DType.FixedSizeList' p d size n) = dtype_even d
  dtype_even (DType.Struct' names dtypes n) = row_even names _ dtypes refl

  row_even : (ns : List (List ℕ × Unit {0})) (m : Count) (r : Row_of-DType m) → m ≡ item_count ns → even_fields (names_in ns) (row_kinds r) ≡ true
  row_even [] _ end_of-DType e = refl
  row_even [] _ (more_of-DType d r) e = cc
  row_even (n ∷ ns) _ end_of-DType e = cc
  row_even (n ∷ ns) _ (more_of-DType d r) e = even_and (dtype_meaning d) (names_in ns) (row_kinds r) (dtype_even d) (row_even ns _ r (ap one_less e))

-- so each data type has a default that fits
pub default_of_dtype : (d : DType) → Fits (dtype_meaning d) (default_row (dtype_meaning d))
default_of_dtype d = default_fits (dtype_meaning d) (dtype_even d)

-- ---- read at a data type that is known

pub fixed_default : (h k : Kind) (size : ℕ) (n : Bool) (v : Option ScalarValue) (vs : List (Option ScalarValue)) (rs : Rows)
    → h ≡ fixed_lists k size n → is_nullable_kind h ≡ false → (Fits k (default_row k) → row_under k v ≡ default_row k)
    → vs ≡ replicate size v → rs ≡ rows_from (map option_row vs) → Fits h (default_row h) → row_under h (Some (value.List rs)) ≡ default_row h
fixed_default h k size n v vs rs same plain each made rows =
    let P : Kind → Type 0 = λ x. is_nullable_kind x ≡ false → Fits x (default_row x) → row_under x (Some (value.List rs)) ≡ default_row x in
    subst P (sym same) (known n) plain
  where
    known : (m : Bool) → is_nullable_kind (fixed_lists k size m) ≡ false → Fits (fixed_lists k size m) (default_row (fixed_lists k size m))
        → row_under (fixed_lists k size m) (Some (value.List rs)) ≡ default_row (fixed_lists k size m)
    known true p fits = cc
    known false p fits = ap items (ap (all_named k) (rows ∙ ap (λ xs. rows_from (map option_row xs)) made) ∙ repeated_named k v (default_row k) size each fits.1)

pub record_default : (d : DType) (fs : StructFields) (n : Nullability) (ds : List DType) (vs : List (Option ScalarValue)) (rs : Rows)
    → d ≡ struct_dtype fs n → is_nullable_kind (dtype_meaning d) ≡ false → kinds_of ds ≡ field_kinds fs
    → AllZip (λ d v. Fits (dtype_meaning d) (default_row (dtype_meaning d)) → row_under (dtype_meaning d) v ≡ default_row (dtype_meaning d)) ds vs
    → rs ≡ rows_from (map option_row vs) → Fits (dtype_meaning d) (default_row (dtype_meaning d)) → row_under (dtype_meaning d) (Some (value.Record rs)) ≡ default_row (dtype_meaning d)
record_default d fs n ds vs rs same plain kinds each rows =
    let P : Kind → Type 0 = λ x. is_nullable_kind x ≡ false → Fits x (default_row x) → row_under x (Some (value.Record rs)) ≡ default_row x in
    let whole = struct_kind d fs n same ∙ ap (λ ks. records (field_names fs) ks (is_nullable_kind (dtype_meaning d))) (sym kinds) in
    subst P (sym whole) (known (is_nullable_kind (dtype_meaning d))) plain
  where
    known : (m : Bool) → m ≡ false → Fits (records (field_names fs) (kinds_of ds) m) (default_row (records (field_names fs) (kinds_of ds) m))
        → row_under (records (field_names fs) (kinds_of ds) m) (Some (value.Record rs)) ≡ default_row (records (field_names fs) (kinds_of ds) m)
    known true p fits = cc
    known false p fits =
        ap record_of (ap (λ x. fields_named (field_names fs) (kinds_of ds) (unnamed x)) rows ∙ defaults_named (field_names fs) ds vs fits each)

pub zip_push : {A B : Type 0} (R : A → B → Type 0) (xs : List A) (ys : List B) (x : A) (y : B) → AllZip R xs ys → R x y → AllZip R (xs ++ x ∷ []) (ys ++ y ∷ [])
zip_push R [] [] x y all here = (here, tt)
zip_push R [] (z ∷ ys) x y all here = absurd all
zip_push R (w ∷ xs) [] x y all here = absurd all
zip_push R (w ∷ xs) (z ∷ ys) x y all here = (all.0, zip_push R xs ys x y all.1 here)

pub take_push : {X : Type 0} (xs : List X) (i : ℕ) (x : X) → i < length xs → x ≡ slice_index_or xs i x → take (i + 1) xs ≡ take i xs ++ x ∷ []
take_push {X = X} xs i x inside at = rw add-one (by_suc xs i inside at)
  where
    by_suc : (ys : List X) (j : ℕ) → j < length ys → x ≡ slice_index_or ys j x → take (suc j) ys ≡ take j ys ++ x ∷ []
    by_suc [] j within here = absurd (omega arith)
    by_suc (y ∷ ys) zero within here = λ i. sym here i ∷ []
    by_suc (y ∷ ys) (suc j) within here = ap (λ zs. y ∷ zs) (by_suc ys j (omega arith) here)

-- Values fit a kind, or the fields of a record, where each of them fits from its place on.
use Rattle.std.proofs.Common.{◌≡◌, ◌∙◌, ◌+◌, ◌<◌, ◌≤◌, ◌↔◌, sym, ap, subst, refl, arith, List, [], ◌∷◌, ℕ, zero, suc, length, drop, map, get_or, slice_index_or, Option, Some, Bool, IsTrue}
use Rattle.std.proofs.lemmas.List.{get_or_default}
use Rattle.vx_base.proofs.StructKinds.{from_place, struct_kind}
use Rattle.vx_base.specs.Codes.{kind_depth, kinds_depth}
use Rattle.vx_base.specs.Kinds.{Kind, fixed_lists, records, is_nullable_kind, Fits, AllFit, FieldsFit, row_count}
use Rattle.vx_base.specs.Rows.{Rows, rows_from}
use Rattle.vx_base.specs.DTypes.{dtype_meaning, field_names, field_kinds, kinds_of}
use Rattle.vx_base.specs.ValueRows.{option_row, row_under, unnamed, all_named, fields_named, ValuesFit, RecordFits}
use Rattle.vx_base.specs.declared.dtypes.DType.{DType, Struct as struct_dtype}
use Rattle.vx_base.specs.declared.nullability.Nullability.{Nullability}
use Rattle.vx_base.specs.declared.struct_fields.StructFields.{StructFields}
use Rattle.vx_base.specs.declared.scalar_value.ScalarValue.TheVariants as value
use Rattle.vx_base.specs.declared.scalar_value.ScalarValue.{ScalarValue}

-- ---- rows of one kind

pub values_count : (k : Kind) (vs : List (Option ScalarValue)) → row_count (all_named k (rows_from (map option_row vs))) ≡ length vs
values_count k [] = refl
values_count k (v ∷ vs) = omega (arith, values_count k vs)

-- ---- fields of a record

same_default : {X : Type 0} (xs : List X) (i : ℕ) (d : X) → i < length xs → get_or xs i d ≡ slice_index_or xs i (get_or xs i d)
same_default xs i d inside = get_or_default xs i d (get_or xs i d) inside

fields_here : (ns : List (List ℕ)) (ds : List DType) (vs : List (Option ScalarValue)) (i : ℕ) (d : DType) (v : Option ScalarValue) (X : Type 0)
    → i < length ns → i < length ds → i < length vs → d ≡ slice_index_or ds i d → v ≡ slice_index_or vs i v
    → (RecordFits (drop i ns) (kinds_of (drop i ds)) (drop i vs) ↔ X)
    → (RecordFits (get_or ns i [] ∷ drop (i + 1) ns) (kinds_of (d ∷ drop (i + 1) ds)) (v ∷ drop (i + 1) vs) ↔ X)
fields_here ns ds vs i d v X in_ns in_ds in_vs at_d at_v same =
    let P : List (List ℕ) → List DType → List (Option ScalarValue) → Type 0 = λ xs ys zs. RecordFits xs (kinds_of ys) zs ↔ X in
    let first = subst (λ xs. P xs (drop i ds) (drop i vs)) (from_place ns i (get_or ns i []) in_ns (same_default ns i [] in_ns)) same in
    let second = subst (λ ys. P (get_or ns i [] ∷ drop (i + 1) ns) ys (drop i vs)) (from_place ds i d in_ds at_d) first in
    subst (λ zs. P (get_or ns i [] ∷ drop (i + 1) ns) (d ∷ drop (i + 1) ds) zs) (from_place vs i v in_vs at_v) second

pub fields_step : (ns : List (List ℕ)) (ds : List DType) (vs : List (Option ScalarValue)) (i : ℕ) (d : DType) (v : Option ScalarValue) (X : Type 0)
    → i < length ns → i < length ds → i < length vs → d ≡ slice_index_or ds i d → v ≡ slice_index_or vs i v
    → Fits (dtype_meaning d) (row_under (dtype_meaning d) v)
    → (RecordFits (drop i ns) (kinds_of (drop i ds)) (drop i vs) ↔ X)
    → (RecordFits (drop (i + 1) ns) (kinds_of (drop (i + 1) ds)) (drop (i + 1) vs) ↔ X)
fields_step ns ds vs i d v X in_ns in_ds in_vs at_d at_v good same =
    let here = fields_here ns ds vs i d v X in_ns in_ds in_vs at_d at_v same in
    ((λ h. here.0 (refl, good, h)), (λ x. (here.1 x).2))

-- where all fields fit, the one at a place does
pub fields_stop : (ns : List (List ℕ)) (ds : List DType) (vs : List (Option ScalarValue)) (i : ℕ) (d : DType) (v : Option ScalarValue) (X : Type 0)
    → i < length ns → i < length ds → i < length vs → d ≡ slice_index_or ds i d → v ≡ slice_index_or vs i v
    → (RecordFits (drop i ns) (kinds_of (drop i ds)) (drop i vs) ↔ X) → X → Fits (dtype_meaning d) (row_under (dtype_meaning d) v)
fields_stop ns ds vs i d v X in_ns in_ds in_vs at_d at_v same x =
    ((fields_here ns ds vs i d v X in_ns in_ds in_vs at_d at_v same).1 x).1

pub fields_lengths : (ns : List (List ℕ)) (ds : List DType) (vs : List (Option ScalarValue)) → RecordFits ns (kinds_of ds) vs
    → (length ns ≡ length vs) × (length ds ≡ length vs)
fields_lengths [] [] [] h = (refl, refl)
fields_lengths [] [] (v ∷ vs) h = absurd h
fields_lengths [] (d ∷ ds) [] h = absurd h
fields_lengths [] (d ∷ ds) (v ∷ vs) h = absurd h
fields_lengths (n ∷ ns) [] [] h = absurd h
fields_lengths (n ∷ ns) [] (v ∷ vs) h = absurd h
fields_lengths (n ∷ ns) (d ∷ ds) [] h = absurd h
fields_lengths (n ∷ ns) (d ∷ ds) (v ∷ vs) h =
    let rest = fields_lengths ns ds vs h.2 in
    (ap suc rest.0, ap suc rest.1)

-- the data type of a field is no deeper than those of all fields
pub field_depth : (ds : List DType) (i : ℕ) (d : DType) → i < length ds → d ≡ slice_index_or ds i d → kind_depth (dtype_meaning d) ≤ kinds_depth (kinds_of ds)
field_depth [] i d inside at = absurd (omega arith)
field_depth (e ∷ ds) zero d inside at = omega (arith, ap (λ x. kind_depth (dtype_meaning x)) at)
field_depth (e ∷ ds) (suc i) d inside at = omega (arith, field_depth ds i d (omega arith) at)

pub struct_depth : (d : DType) (fs : StructFields) (n : Nullability) → d ≡ struct_dtype fs n → kind_depth (dtype_meaning d) ≡ kinds_depth (field_kinds fs) + 1
struct_depth d fs n e = ap kind_depth (struct_kind d fs n e)

-- ---- read at a data type and a value that are known

fit_at : (r : Bool) (k h : Kind) (v w : Option ScalarValue) → h ≡ k → w ≡ v → (IsTrue r ↔ Fits k (row_under k v)) → IsTrue r ↔ Fits h (row_under h w)
fit_at r k h v w same_kind same_value fits =
    let P : Kind → Option ScalarValue → Type 0 = λ x y. IsTrue r ↔ Fits x (row_under x y) in
    subst (λ x. P x w) (sym same_kind) (subst (λ y. P k y) (sym same_value) fits)

pub fixed_fits : (r : Bool) (k h : Kind) (size : ℕ) (n : Bool) (rs : Rows) (vs : List (Option ScalarValue)) (w : Option ScalarValue)
    → h ≡ fixed_lists k size n → w ≡ Some (value.List rs) → rows_from (map option_row vs) ≡ rs
    → (IsTrue r ↔ ((length vs ≡ size) × ValuesFit k vs)) → IsTrue r ↔ Fits h (row_under h w)
fixed_fits r k h size n rs vs w same_kind same_value same_rows fits =
    let P : Rows → Type 0 = λ x. IsTrue r ↔ ((row_count (all_named k x) ≡ size) × AllFit k (all_named k x)) in
    let counted : P (rows_from (map option_row vs)) =
    ((λ t. (values_count k vs ∙ (fits.0 t).0, (fits.0 t).1)), (λ f. fits.1 (sym (values_count k vs) ∙ f.0, f.1))) in
    fit_at r (fixed_lists k size n) h (Some (value.List rs)) w same_kind same_value (subst P same_rows counted)

pub record_fits : (r : Bool) (d : DType) (fs : StructFields) (n : Nullability) (rs : Rows) (vs : List (Option ScalarValue)) (w : Option ScalarValue)
    → d ≡ struct_dtype fs n → w ≡ Some (value.Record rs) → rows_from (map option_row vs) ≡ rs
    → (IsTrue r ↔ RecordFits (field_names fs) (field_kinds fs) vs) → IsTrue r ↔ Fits (dtype_meaning d) (row_under (dtype_meaning d) w)
record_fits r d fs n rs vs w same_dtype same_value same_rows fits =
    let P : Rows → Type 0 = λ x. IsTrue r ↔ FieldsFit (field_names fs) (field_kinds fs) (fields_named (field_names fs) (field_kinds fs) (unnamed x)) in
    fit_at r (records (field_names fs) (field_kinds fs) (is_nullable_kind (dtype_meaning d))) (dtype_meaning d) (Some (value.Record rs)) w
    (struct_kind d fs n same_dtype) same_value (subst P same_rows fits)

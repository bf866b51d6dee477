-- The kind of a record's data type, read at its fields.
use Rattle.std.proofs.Common.{◌≡◌, ◌∙◌, ◌&&◌, ◌+◌, sym, ap, refl, List, [], ◌∷◌, ℕ, Bool, true, false, length, drop, slice_index_or, ◌<◌, drop-cons, add-one, suc}
use Rattle.std.specs.Bool.{beq}
use Rattle.vx_base.specs.SameKind.{kind_eq, kinds_eq, names_eq}
use Rattle.vx_base.specs.DTypes.{kinds_of}
use Rattle.vx_base.specs.Kinds.{records, is_nullable_kind}
use Rattle.vx_base.specs.DTypes.{dtype_meaning, dtype_meaning-Struct, field_names, field_kinds, is_nullable}
use Rattle.vx_base.specs.declared.dtypes.DType.{DType, Struct as struct_dtype}
use denote.Enum.Bare.{sameb}
use Rattle.vx_base.specs.contracts.nullability.Nullability.{the_type}
use Rattle.vx_base.specs.declared.nullability.Nullability.{Nullability}
use Rattle.vx_base.specs.declared.nullability.Nullability.TheVariants.{NonNullable, Nullable}
use Rattle.vx_base.specs.declared.struct_fields.StructFields.{StructFields}

pub struct_kind : (d : DType) (fs : StructFields) (n : Nullability) → d ≡ struct_dtype fs n → dtype_meaning d ≡ records (field_names fs) (field_kinds fs) (is_nullable_kind (dtype_meaning d))
struct_kind d fs n e =
    let whole : dtype_meaning d ≡ records (field_names fs) (field_kinds fs) (is_nullable n) = ap dtype_meaning e ∙ dtype_meaning-Struct fs n in
    whole ∙ ap (records (field_names fs) (field_kinds fs)) (sym (ap is_nullable_kind whole))

pub same_struct_kind : (d : DType) (fs gs : StructFields) (n : Nullability) → d ≡ struct_dtype fs n → field_names gs ≡ field_names fs → field_kinds gs ≡ field_kinds fs
    → dtype_meaning (struct_dtype gs n) ≡ dtype_meaning d
same_struct_kind d fs gs n e names kinds =
    dtype_meaning-Struct gs n ∙ (λ i. records (names i) (kinds i) (is_nullable n)) ∙ sym (ap dtype_meaning e ∙ dtype_meaning-Struct fs n)

pub same_structs : (a b : DType) (fs gs : StructFields) (n m : Nullability) (r : Bool) → a ≡ struct_dtype fs n → b ≡ struct_dtype gs m → beq (is_nullable n) (is_nullable m) ≡ true
    → r ≡ (names_eq (field_names fs) (field_names gs) && kinds_eq (field_kinds fs) (field_kinds gs)) → r ≡ kind_eq (dtype_meaning a) (dtype_meaning b)
same_structs a b fs gs n m r ea eb same parts =
    parts ∙ sym (ap (λ x. x && (names_eq (field_names fs) (field_names gs) && kinds_eq (field_kinds fs) (field_kinds gs))) same)
    ∙ sym (λ i. kind_eq ((ap dtype_meaning ea ∙ dtype_meaning-Struct fs n) i) ((ap dtype_meaning eb ∙ dtype_meaning-Struct gs m) i))

pub same_nullability : (n m : Nullability) → sameb the_type n m ≡ true → beq (is_nullable n) (is_nullable m) ≡ true
same_nullability NonNullable NonNullable p = refl
same_nullability Nullable Nullable p = refl
same_nullability _ _ p = cc

none_and : (b : Bool) → false ≡ (b && false)
none_and true = refl
none_and false = refl

pub kinds_eq-lengths : (ds es : List DType) → ¬ (length ds ≡ length es) → false ≡ kinds_eq (kinds_of ds) (kinds_of es)
kinds_eq-lengths [] [] apart = absurd (apart refl)
kinds_eq-lengths [] (e ∷ es) apart = refl
kinds_eq-lengths (d ∷ ds) [] apart = refl
kinds_eq-lengths (d ∷ ds) (e ∷ es) apart =
    none_and (kind_eq (dtype_meaning d) (dtype_meaning e))
    ∙ ap (λ x. kind_eq (dtype_meaning d) (dtype_meaning e) && x) (kinds_eq-lengths ds es (λ same. apart (ap suc same)))

-- the items from a place on are the one there and those after it
pub from_place : {X : Type 0} (ds : List X) (i : ℕ) (d : X) → i < length ds → d ≡ slice_index_or ds i d → drop i ds ≡ d ∷ drop (i + 1) ds
from_place ds i d inside at = drop-cons ds i d inside ∙ (λ k. sym at k ∷ drop (sym (add-one i) k) ds)

-- What passes the tests of the columns of records, and what comes of the items of an iterator.
use Rattle.std.proofs.Common.{◌≡◌, ℕ, Bool, true, false, List, [], ◌∷◌, length, Option, Some, None, refl, sym, ap, ◌∙◌, inl, inr, arith}
use Rattle.std.specs.Prelude.{◌==◌, not, ◌⊎◌, if◌then◌else◌, Result, Ok, Err, IfOk, IfErr, IsSome}
use Rattle.std.specs.Iterator.{Drains}
use Rattle.std.proofs.lemmas.Bool.{eqb-true}
use Rattle.vx_base.specs.DTypes.{kinds_of}
use Rattle.vx_base.specs.declared.dtypes.DType.{DType}
use Rattle.vx_base.specs.declared.errors.VortexError.{VortexError}
use Rattle.vx_base.specs.declared.errors.VortexError.TheVariants.{Memory}
use Rattle.vx_base.specs.Fields.{kind_count}
use Rattle.vx_base.specs.Kinds.{Kind, Kinds, no_kinds, kind}
use Rattle.vx_base.specs.SameKind.{kind_eq}
use Rattle.vx_base.specs.Refusals.{Refusal, refusal_of, Refuses, Tests, IsMemoryOr, Names, mismatched_types, length_mismatch, or_else}
use Rattle.vx_base.proofs.Fields.{kind_count_of}
use Rattle.vx_base.proofs.FirstFaults.{or_else-none}
use Rattle.vx_tree.specs.Tree.{Tree, Valid}
use Rattle.vx_tree.specs.Meaning.{tree_len, kind_of, trees_from}
use Rattle.vx_tree.specs.Faults.{length_fault, validity_fault}
use Rattle.vx_tree.specs.Formed.{AllLen, IsStruct, WellFormed}
use Rattle.vx_tree.proofs.Columns.{column_count-trees_from}
use Rattle.vx_tree.proofs.Dictionaries.{memory_only}
use Rattle.vx_tree.proofs.RowLists.{faultless_fits}
use Rattle.vx_structs.specs.Structs.Faults.{column_lens_fault, kind_fault, typed_column_fault, typed_columns_fault, typed_struct_fault, IsMadeOf, AreFaulty}
use Rattle.vx_structs.specs.Structs.{records_by}

-- ---- lengths

equal_only : (b : Bool) → (if b then None else Some length_mismatch) ≡ None → b ≡ true
equal_only true none = refl
equal_only false none = absurd (cc)

pub length_fault-none : (wanted found : ℕ) → length_fault wanted found ≡ None → found ≡ wanted
length_fault-none wanted found none = eqb-true found wanted (equal_only (found == wanted) none)

pub all_len : (n : ℕ) (columns : List Tree) → column_lens_fault n columns ≡ None → AllLen n (trees_from columns)
all_len n [] none = tt
all_len n (t ∷ ts) none =
    let both = or_else-none (length_fault n (tree_len t)) (column_lens_fault n ts) none in
    (length_fault-none n (tree_len t) both.0, all_len n ts both.1)

pub columns_fit : (names : List (List ℕ)) (columns : List Tree) (n : ℕ) → length names ≡ length columns → column_lens_fault n columns ≡ None
    → IsStruct names (trees_from columns) n
columns_fit names columns n named lens = record {
  named = named ∙ sym (column_count-trees_from columns);
  lens = all_len n columns lens;
}

-- ---- kinds

same_kind : (b differs : Bool) → differs ≡ not b → differs ≡ false → b ≡ true
same_kind true differs told same = refl
same_kind false differs told same = cc

-- a column of the kind is faulty by its length alone
pub typed_column_fault-same : (k : Kind) (n : ℕ) (t : Tree) (own : Kind) (differs : Bool) → own ≡ kind_of t → differs ≡ not (kind_eq own k) → differs ≡ false
    → typed_column_fault k n t ≡ length_fault n (tree_len t)
typed_column_fault-same k n t own differs owned told same =
    let alike : kind_eq (kind_of t) k ≡ true = ap (λ o. kind_eq o k) (sym owned) ∙ same_kind (kind_eq own k) differs told same in
    ap (λ (b : Bool). or_else (if b then None else Some mismatched_types) (length_fault n (tree_len t))) alike

other_kind : (b differs : Bool) → differs ≡ not b → differs ≡ true → b ≡ false
other_kind true differs told other = cc
other_kind false differs told other = refl

-- and a column of another kind by its kind
pub typed_column_fault-other : (k : Kind) (n : ℕ) (t : Tree) (own : Kind) (differs : Bool) → own ≡ kind_of t → differs ≡ not (kind_eq own k) → differs ≡ true
    → typed_column_fault k n t ≡ Some mismatched_types
typed_column_fault-other k n t own differs owned told other =
    let unlike : kind_eq (kind_of t) k ≡ false = ap (λ o. kind_eq o k) (sym owned) ∙ other_kind (kind_eq own k) differs told other in
    ap (λ (b : Bool). or_else (if b then None else Some mismatched_types) (length_fault n (tree_len t))) unlike

-- there are as many data types as kinds
pub dtypes_counted : (dtypes : List DType) (ks : Kinds) → kinds_of dtypes ≡ ks → length dtypes ≡ kind_count ks
dtypes_counted dtypes ks same = sym (kind_count_of dtypes) ∙ ap kind_count same

lens_of_typed : (ks : Kinds) (n : ℕ) (columns : List Tree) → kind_count ks ≡ length columns → typed_columns_fault ks n columns ≡ None → AllLen n (trees_from columns)
lens_of_typed ks n [] counted none = tt
lens_of_typed no_kinds n (t ∷ ts) counted none = absurd (omega (arith, counted))
lens_of_typed (kind k ks) n (t ∷ ts) counted none =
    let both = or_else-none (typed_column_fault k n t) (typed_columns_fault ks n ts) none in
    let here = or_else-none (kind_fault k t) (length_fault n (tree_len t)) both.0 in
    (length_fault-none n (tree_len t) here.1, lens_of_typed ks n ts (omega (arith, counted)) both.1)

-- faultless parts of as many kinds as names are well formed
pub typed_parts_formed : (names : List (List ℕ)) (ks : Kinds) (columns : List Tree) (v : Valid) (n : ℕ) → kind_count ks ≡ length names
    → typed_struct_fault names ks columns v n ≡ None → WellFormed (records_by names columns v n)
typed_parts_formed names ks columns v n counted none =
    let named = or_else-none (length_fault (length names) (length columns)) _ none in
    let valid = or_else-none (validity_fault v n) (typed_columns_fault ks n columns) named.1 in
    let count = length_fault-none (length names) (length columns) named.0 in (
      faultless_fits v n valid.0,
      record {
        named = sym count ∙ sym (column_count-trees_from columns);
        lens = lens_of_typed ks n columns (counted ∙ sym count) valid.1;
      },
    )

after_none : {A : Type 0} (r : Result A VortexError) (first second : Option Refusal) → first ≡ None → Tests r second → Tests r (or_else first second)
after_none r None second none tests = tests
after_none r (Some fault) second none tests = absurd (cc)

-- where the count and the validity are faultless, the columns are tested
pub typed_parts_tested : {A : Type 0} (r : Result A VortexError) (names : List (List ℕ)) (ks : Kinds) (columns : List Tree) (v : Valid) (n : ℕ)
    → length_fault (length names) (length columns) ≡ None → validity_fault v n ≡ None
    → Tests r (typed_columns_fault ks n columns) → Tests r (typed_struct_fault names ks columns v n)
typed_parts_tested r names ks columns v n named valid tests = after_none r _ _ named (after_none r _ _ valid tests)

-- what holds where there is no fault holds where a test passes
pub where_faultless : {A : Type 0} (r : Result A VortexError) (fault : Option Refusal) (P : Type 0) → (fault ≡ None → P) → Tests r fault → IfOk r (λ _. P)
where_faultless (Ok x) fault P holds none = holds none
where_faultless (Err e) fault P holds named = tt

-- ---- what comes of an iterator

none_or_some : (o : Option Refusal) → (o ≡ None) ⊎ IsSome o
none_or_some None = inl refl
none_or_some (Some r) = inr refl

pub memory_or_named : (fault : Option Refusal) (e : VortexError) → IsMemoryOr fault e → (e ≡ Memory) ⊎ Names fault e
memory_or_named fault e (inl memory) = inl memory
memory_or_named fault e (inr same) = by_refusal (none_or_some (refusal_of e))
  where
    by_refusal : (refusal_of e ≡ None) ⊎ IsSome (refusal_of e) → (e ≡ Memory) ⊎ Names fault e
    by_refusal (inl nothing) = inl (memory_only (refusal_of e) e nothing (inr refl))
    by_refusal (inr some) = inr (some, same)

pub made_of_items : {S A : Type 0} (steps : S → Option A → S → Type 0) (s : S) (fault : List A → Option Refusal) (P : List A → Tree → Type 0) (all : List A)
    (r : Result Tree VortexError) → Drains steps s all → IfOk r (P all) → Refuses r (fault all) → IfOk r (IsMadeOf steps s fault P)
made_of_items steps s fault P all (Ok made) came is faultless = record { all = all; came = came; faultless = faultless; is = is }
made_of_items steps s fault P all (Err e) came is faulty = tt

pub faulty_items : {S A : Type 0} (steps : S → Option A → S → Type 0) (s : S) (fault : List A → Option Refusal) (all : List A)
    (r : Result Tree VortexError) → Drains steps s all → Refuses r (fault all) → IfErr r (AreFaulty steps s fault)
faulty_items steps s fault all (Ok made) came faultless = tt
faulty_items steps s fault all (Err e) came faulty = by_case (memory_or_named (fault all) e faulty)
  where
    by_case : (e ≡ Memory) ⊎ Names (fault all) e → AreFaulty steps s fault e
    by_case (inl memory) = inl memory
    by_case (inr named) = inr (all, came, named)

-- What each step on records appends, by what its call gives.
use Rattle.std.proofs.Common.{◌≡◌, ℕ, Bool, true, List, [], ◌∷◌, ◌++◌, refl, sym, ◌∙◌, ap, subst, inr}
use Rattle.std.specs.Prelude.{Option, Some, None, IfSome}
use Rattle.std.specs.Global.{Vec}
use Rattle.vx_base.specs.Fields.{place_of_name}
use Rattle.vx_base.specs.declared.errors.VortexError.{VortexError}
use Rattle.vx_base.specs.Refusals.{Refusal, Names, IsMemoryOr, or_else}
use Rattle.vx_base.specs.Kinds.{Kind, booleans, integers, texts, binaries, lists, fixed_lists, records, Kinds}
use Rattle.vx_tree.specs.Tree.{Tree, bools, primitive, constant, dictionary, fixed_list, list_view, structure, view_array}
use Rattle.vx_tree.specs.Meaning.{kind_of, rows}
use Rattle.vx_tree.specs.Shapes.{tree_state}
use Rattle.vx_tree.specs.Validities.{is_full_state}
use Rattle.vx_structs.specs.Structs.Records.{projected, with_column, without_column, pushed, names_in}
use Rattle.vx_structs.specs.Structs.Records.{projected_kind, kind_with_column, kind_without, kind_without_column, pushed_kind}
use Rattle.vx_structs.specs.Structs.Faults.{unknown_fault}
use Rattle.vx_structs.specs.Structs.{is_struct, names_of, IsProjected, added, removed, IsPushed}
use Rattle.vx_run.specs.declared.steps.Step.TheVariants.{Project, WithColumn, RemoveColumn, PushValidity}
use Rattle.vx_run.specs.Steps.{names_without, array_at, records_fault, step_fault, IsStep}
use Rattle.vx_run.proofs.StepResults.{named_rows-same}

-- ---- the kind of an array of records

-- an array of records has a kind of records, under the same names
record IsRecords (t : Tree) : Type 0 where
  kinds : Kinds
  nullable : Bool
  kind : kind_of t ≡ records (names_of t) kinds nullable

is_records : (t : Tree) → is_struct t ≡ true → IsRecords t
is_records (structure ns ts v n) laid = record { kinds = _; nullable = _; kind = refl }
is_records (bools b bits v) laid = absurd (cc)
is_records (primitive p bs v) laid = absurd (cc)
is_records (constant k r n) laid = absurd (cc)
is_records (dictionary c v f) laid = absurd (cc)
is_records (fixed_list e k v n) laid = absurd (cc)
is_records (list_view e o s v f) laid = absurd (cc)
is_records (view_array vs bs k v) laid = absurd (cc)

-- ---- projected

pub step-project : (arrays : List Tree) (array : ℕ) (names : Vec (List ℕ)) (t r out : Tree) → t ≡ array_at arrays array
    → is_struct (array_at arrays array) ≡ true → IsProjected t names.items r → rows r ≡ projected names.items (rows t)
    → kind_of r ≡ projected_kind names.items (kind_of t) → out ≡ r → IsStep (Project array names) arrays out
step-project arrays array names t r out is laid made same kind equal =
    let of = kind ∙ ap (λ u. projected_kind names.items (kind_of u)) is in
    let wide = is_records (array_at arrays array) laid in
    subst (λ u. IsStep (Project array names) arrays u) (sym equal) (record {
      same_rows = named_rows-same _ _ _ _ (ap names_in of ∙ ap (λ k. names_in (projected_kind names.items k)) wide.kind) (same ∙ ap (λ u. projected names.items (rows u)) is);
      kind = of;
      layout = subst (λ u. IsProjected u names.items r) is made;
    })

-- ---- one column more

pub step-with : (arrays : List Tree) (array column : ℕ) (name : List ℕ) (t c r out : Tree) → t ≡ array_at arrays array → c ≡ array_at arrays column
    → is_struct (array_at arrays array) ≡ true → r ≡ added t name c → rows r ≡ with_column name (rows c) (rows t)
    → kind_of r ≡ kind_with_column name (kind_of c) (kind_of t) → out ≡ r → IsStep (WithColumn array name column) arrays out
step-with arrays array column name t c r out is at laid made same kind equal =
    let of = kind ∙ (λ i. kind_with_column name (kind_of (at i)) (kind_of (is i))) in
    let wide = is_records (array_at arrays array) laid in
    let names = ap (λ k. names_in (kind_with_column name (kind_of (array_at arrays column)) k)) wide.kind in
    subst (λ u. IsStep (WithColumn array name column) arrays u) (sym equal) (record {
      same_rows = named_rows-same _ _ _ _ (ap names_in of ∙ names ∙ sym (ap (λ k. names_in k ++ name ∷ []) wide.kind))
          (same ∙ (λ i. with_column name (rows (at i)) (rows (is i))));
      kind = of;
      layout = made ∙ (λ i. added (is i) name (at i));
    })

-- ---- one column less

kept-names : (place : Option ℕ) (ns : List (List ℕ)) (ks : Kinds) (n : Bool) → names_in (kind_without place (records ns ks n)) ≡ names_without place ns
kept-names None ns ks n = refl
kept-names (Some i) ns ks n = refl

left-names : (name : List ℕ) (k : Kind) (ns : List (List ℕ)) (ks : Kinds) (n : Bool) → k ≡ records ns ks n
    → names_in (kind_without_column name k) ≡ names_without (place_of_name (names_in k) name) (names_in k)
left-names name k ns ks n is =
    ap (λ l. names_in (kind_without_column name l)) is ∙ kept-names (place_of_name ns name) ns ks n
    ∙ sym (ap (λ l. names_without (place_of_name (names_in l) name) (names_in l)) is)

step-without : (arrays : List Tree) (array : ℕ) (name : List ℕ) (t c r out : Tree) → t ≡ array_at arrays array
    → is_struct (array_at arrays array) ≡ true → removed t name ≡ Some (r, c) → rows r ≡ without_column name (rows t)
    → kind_of r ≡ kind_without_column name (kind_of t) → out ≡ r → IsStep (RemoveColumn array name) arrays out
step-without arrays array name t c r out is laid made same kind equal =
    let of = kind ∙ ap (λ u. kind_without_column name (kind_of u)) is in
    let wide = is_records (array_at arrays array) laid in
    subst (λ u. IsStep (RemoveColumn array name) arrays u) (sym equal) (record {
      same_rows = named_rows-same _ _ _ _ (ap names_in of ∙ left-names name _ (names_of (array_at arrays array)) wide.kinds wide.nullable wide.kind)
          (same ∙ ap (λ u. without_column name (rows u)) is);
      kind = of;
      layout = (c, ap (λ u. removed u name) (sym is) ∙ made);
    })

-- what `remove_column` finds under the name, which is a text
pub step-removed : (arrays : List Tree) (array : ℕ) (name text : List ℕ) (found : Option (Tree × Tree)) (t c r out : Tree) → text ≡ name
    → t ≡ array_at arrays array → is_struct (array_at arrays array) ≡ true → found ≡ removed t text
    → IfSome found (λ pair. rows pair.0 ≡ without_column text (rows t)) → IfSome found (λ pair. kind_of pair.0 ≡ kind_without_column text (kind_of t))
    → found ≡ Some (r, c) → out ≡ r → IsStep (RemoveColumn array name) arrays out
step-removed arrays array name text found t c r out same_name is laid made same kind here equal =
    let there : removed t name ≡ Some (r, c) = ap (removed t) (sym same_name) ∙ sym made ∙ here in
    let left : rows r ≡ without_column text (rows t) = subst (λ f. IfSome f (λ pair. rows pair.0 ≡ without_column text (rows t))) here same in
    let of : kind_of r ≡ kind_without_column text (kind_of t) =
    subst (λ f. IfSome f (λ pair. kind_of pair.0 ≡ kind_without_column text (kind_of t))) here kind in
    step-without arrays array name t c r out is laid there (left ∙ ap (λ n. without_column n (rows t)) same_name)
    (of ∙ ap (λ n. kind_without_column n (kind_of t)) same_name) equal

-- a name that no field has
pub unknown-refused : (arrays : List Tree) (array : ℕ) (name text : List ℕ) (t : Tree) (e : VortexError) → text ≡ name → t ≡ array_at arrays array
    → records_fault arrays array ≡ None → Names (unknown_fault (place_of_name (names_of t) text)) e → IsMemoryOr (step_fault (RemoveColumn array name) arrays) e
unknown-refused arrays array name text t e same_name is laid named =
    let unknown : List ℕ → Tree → Option Refusal = λ n u. unknown_fault (place_of_name (names_of u) n) in
    inr (ap (λ f. or_else f (unknown name (array_at arrays array))) laid ∙ sym (λ i. unknown (same_name i) (is i)) ∙ named.1)

-- ---- nulls pushed into the columns

pushed-names : (full remove : Bool) (k : Kind) → names_in (pushed_kind full remove k) ≡ names_in k
pushed-names full remove (records ns ks n) = refl
pushed-names full remove (booleans n) = refl
pushed-names full remove (integers t n) = refl
pushed-names full remove (texts n) = refl
pushed-names full remove (binaries n) = refl
pushed-names full remove (lists k n) = refl
pushed-names full remove (fixed_lists k size n) = refl

pub step-push : (arrays : List Tree) (array : ℕ) (remove : Bool) (t r out : Tree) → t ≡ array_at arrays array
    → is_struct (array_at arrays array) ≡ true → IsPushed t remove r → out ≡ r → IsStep (PushValidity array remove) arrays out
step-push arrays array remove t r out is laid made equal =
    let there = subst (λ u. IsPushed u remove r) is made in
    let wide = is_records (array_at arrays array) laid in
    subst (λ u. IsStep (PushValidity array remove) arrays u) (sym equal) (record {
      same_rows = named_rows-same _ _ _ _ (ap names_in there.kind ∙ pushed-names (is_full_state (tree_state (array_at arrays array))) remove (kind_of (array_at arrays array)))
          (there.same_rows ∙ ap (λ ns. pushed ns remove (rows (array_at arrays array))) (sym (ap names_in wide.kind)));
      kind = there.kind;
      layout = there;
    })

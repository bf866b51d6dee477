-- What each step appends, by what its call gives.
use Rattle.std.proofs.Common.{◌≡◌, ℕ, zero, suc, Bool, true, false, cond, List, [], ◌∷◌, refl, sym, ◌∙◌, ap, subst, arith}
use Rattle.std.specs.Prelude.{◌≢◌, ◌-◌, slice_range, Some, None}
use Rattle.std.specs.Global.{Vec}
use Rattle.std.specs.List.{All, flat_map, range_with_len}
use Rattle.std.proofs.lemmas.Bool.{ne_eqb}
use Rattle.std.proofs.lemmas.List.Folds.{flat_map-map}
use Rattle.std.proofs.lemmas.Simd.{map-map}
use Rattle.vx_base.specs.Kinds.{Kind, booleans, integers, texts, binaries, lists, fixed_lists, records, is_nullable_kind, or_nullable}
use Rattle.vx_base.specs.Refusals.{not_implemented}
use Rattle.vx_base.specs.Rows.{Row, truth_of}
use Rattle.vx_base.specs.Trues.{trues}
use Rattle.vx_tree.specs.Tree.{Tree, bools, primitive, constant, dictionary, fixed_list, list_view, structure, view_array, by_array}
use Rattle.vx_tree.specs.Meaning.{tree_len, kind_of, row_at, rows, nullable, valid_mask}
use Rattle.vx_canonical.specs.Canonical.{IsCanonical, IsCanonicalWithin}
use Rattle.vx_canonical.specs.Concatenated.{concat_fault, HasNumbersOf, IsConcatenated}
use Rattle.vx_tree.specs.Flags.{is_flagged}
use Rattle.vx_canonical.specs.Joined.{joined_state}
use Rattle.vx_tree.specs.Layouts.{is_constant, is_list_view, is_primitive}
use Rattle.vx_tree.specs.OneValue.{HasOneValue}
use Rattle.vx_tree.specs.Operations.{IsSlice, IsSelected, IsNulled, picks, positions, filtered, masked, truths}
use Rattle.vx_tree.specs.Plain.{IsPlain}
use Rattle.vx_tree.specs.Shapes.{tree_state}
use Rattle.vx_tree.proofs.RowLists.{length-valid_mask}
use Rattle.vx_leaves.specs.Narrow.{IsNarrowed}
use Rattle.vx_lists.specs.declared.list_view.rebuild.ListViewRebuildMode.{ListViewRebuildMode}
use Rattle.vx_lists.specs.declared.list_view.rebuild.ListViewRebuildMode.TheVariants.{MakeZeroCopyToList, TrimElements, MakeExact, OverlapCompression}
use Rattle.vx_lists.specs.ListViews.References.{IsTrimmedToBounds}
use Rattle.vx_lists.specs.ListViews.Faults.{rebuild_fault}
use Rattle.vx_lists.specs.ListViews.{flag_of, with_flag, IsRebuilt}
use Rattle.vx_structs.specs.Structs.Records.{names_in}
use Rattle.vx_lists.specs.ListViews.Modes.{IsMadeBy, IsRebuiltBy}
use Rattle.vx_run.specs.declared.steps.Step.TheVariants.{Slice, Take, Filter, Mask, Concat, Canonical, Rebuild, Narrow}
use Rattle.vx_run.specs.Steps.{named_rows, rows_of, joined_names, array_at, arrays_at, joined_kind, narrowed_kind, IsStep, IsTaken}

pub named_rows-same : (ns ms : List (List ℕ)) (rs ss : List Row) → ns ≡ ms → rs ≡ ss → named_rows ns rs ≡ named_rows ms ss
named_rows-same ns ms rs ss names same = λ i. named_rows (names i) (same i)

-- ---- rows at positions and under masks

pub step-slice : (arrays : List Tree) (array start end : ℕ) (t r : Tree) → t ≡ array_at arrays array → kind_of r ≡ kind_of t
    → rows r ≡ slice_range (rows t) start end → IsSlice t start (end - start) r → IsStep (Slice array start end) arrays r
step-slice arrays array start end t r is kind same slice = record {
  same_rows = named_rows-same _ _ _ _ (ap names_in (kind ∙ ap kind_of is)) (same ∙ ap (λ u. slice_range (rows u) start end) is);
  kind = kind ∙ ap kind_of is;
  layout = subst (λ u. IsSlice u start (end - start) r) is slice;
}

names_in-or_nullable : (c : Bool) (k : Kind) → names_in (or_nullable c k) ≡ names_in k
names_in-or_nullable c (booleans n) = refl
names_in-or_nullable c (integers t n) = refl
names_in-or_nullable c (texts n) = refl
names_in-or_nullable c (binaries n) = refl
names_in-or_nullable c (lists k n) = refl
names_in-or_nullable c (fixed_lists k size n) = refl
names_in-or_nullable c (records ns ks n) = refl

pub step-take : (arrays : List Tree) (array indices : ℕ) (t u r : Tree) → t ≡ array_at arrays array → u ≡ array_at arrays indices
    → kind_of r ≡ or_nullable (is_nullable_kind (kind_of u)) (kind_of t) → rows r ≡ picks (rows t) (positions (rows u)) → IsTaken t u r
    → IsStep (Take array indices) arrays r
step-take arrays array indices t u r is at kind same taken =
    let of : kind_of r ≡ or_nullable (is_nullable_kind (kind_of (array_at arrays indices))) (kind_of (array_at arrays array)) =
    kind ∙ (λ i. or_nullable (is_nullable_kind (kind_of (at i))) (kind_of (is i))) in
    record {
      same_rows = named_rows-same _ _ _ _ (ap names_in of ∙ names_in-or_nullable (is_nullable_kind (kind_of (array_at arrays indices))) (kind_of (array_at arrays array)))
          (same ∙ (λ i. picks (rows (is i)) (positions (rows (at i)))));
      kind = of;
      layout = subst (λ w. IsTaken w (array_at arrays indices) r) is (subst (λ w. IsTaken t w r) at taken);
    }

pub step-filter : (arrays : List Tree) (array mask : ℕ) (t r : Tree) (bs : List Bool) → t ≡ array_at arrays array → bs ≡ truths (rows (array_at arrays mask))
    → kind_of r ≡ kind_of t → rows r ≡ filtered bs (rows t) → IsSelected t (trues bs) r → IsStep (Filter array mask) arrays r
step-filter arrays array mask t r bs is at kind same selected = record {
  same_rows = named_rows-same _ _ _ _ (ap names_in (kind ∙ ap kind_of is)) (same ∙ (λ i. filtered (at i) (rows (is i))));
  kind = kind ∙ ap kind_of is;
  layout = rw (is, at) at selected;
}

pub step-mask : (arrays : List Tree) (array mask : ℕ) (t u r : Tree) → t ≡ array_at arrays array → u ≡ array_at arrays mask
    → kind_of r ≡ or_nullable true (kind_of t) → rows r ≡ masked (truths (rows u)) (rows t) → IsNulled t (by_array u) r
    → (is_constant t ≡ true → HasOneValue r) → IsStep (Mask array mask) arrays r
step-mask arrays array mask t u r is at kind same nulled one =
    let of = kind ∙ ap (λ w. or_nullable true (kind_of w)) is in
    record {
      same_rows = named_rows-same _ _ _ _ (ap names_in of ∙ names_in-or_nullable true (kind_of (array_at arrays array)))
          (same ∙ (λ i. masked (truths (rows (at i))) (rows (is i))));
      kind = of;
      layout = (subst (λ w. IsNulled (array_at arrays array) (by_array w) r) at (subst (λ w. IsNulled w (by_array u) r) is nulled), λ constant. one (ap is_constant is ∙ constant));
    }

pub step-canonical : (arrays : List Tree) (array : ℕ) (t r : Tree) → t ≡ array_at arrays array → rows r ≡ rows t → IsCanonical t r
    → IsCanonicalWithin t r → (IsPlain t → r ≡ t) → IsStep (Canonical array) arrays r
step-canonical arrays array t r is same canonical within shared =
    let of = canonical.same.kind ∙ ap kind_of is in
    record {
      same_rows = named_rows-same _ _ _ _ (ap names_in of) (same ∙ ap rows is);
      kind = of;
      layout = (subst (λ u. IsCanonical u r) is canonical, subst (λ u. IsCanonicalWithin u r) is within, subst (λ u. IsPlain u → r ≡ u) is shared);
    }

-- the mask of an array is its truth values
pub mask-truths : (u : Tree) (n : ℕ) → tree_len u ≡ n → valid_mask (by_array u) n ≡ truths (rows u)
mask-truths u n len = ap (valid_mask (by_array u)) (sym len) ∙ sym (map-map truth_of (row_at u) (range_with_len 0 (tree_len u)))

pub ruleset plain_masks = (mask-truths, length-valid_mask)

-- ---- arrays that are joined

-- their kind is that of the first, which there is
joined-kind : (ts : List Tree) (r : Tree) → concat_fault ts ≡ None → All (λ t. kind_of t ≡ kind_of r) ts → kind_of r ≡ joined_kind ts
joined-kind [] r none alike = absurd (cc)
joined-kind (t ∷ ts) r none alike = sym (alike 0 t (omega arith))

joined-names : (arrays : List Tree) (is : List ℕ) → names_in (joined_kind (arrays_at arrays is)) ≡ joined_names is (λ i. rows_of (array_at arrays i))
joined-names arrays [] = refl
joined-names arrays (i ∷ is) = refl

pub step-concat : (arrays : List Tree) (v : Vec ℕ) (found : List Tree) (r : Tree) → found ≡ arrays_at arrays v.items → concat_fault found ≡ None
    → IsConcatenated found r → tree_state r ≡ joined_state found → is_flagged r ≡ false → HasNumbersOf found r → IsStep (Concat v) arrays r
step-concat arrays v found r is none made state flag numbers =
    let of = joined-kind found r none made.kind ∙ ap joined_kind is in
    record {
      same_rows = named_rows-same _ _ _ _ (ap names_in of ∙ joined-names arrays v.items)
          (made.same_rows ∙ ap (flat_map rows) is ∙ flat_map-map rows (array_at arrays) v.items);
      kind = of;
      layout = (subst (λ ts. IsConcatenated ts r) is made, state ∙ ap joined_state is, flag, subst (λ ts. HasNumbersOf ts r) is numbers);
    }

-- ---- rebuilt and narrowed arrays

-- the clauses of `rebuild` on success
pub record IsRebuildAnswer (mode : ListViewRebuildMode) (t r : Tree) : Type 0 where
  pub empty : tree_len t ≡ 0 → r ≡ with_flag true t
  pub flagged : mode ≡ MakeZeroCopyToList → flag_of t ≡ true → r ≡ t
  pub rebuilt : mode ≡ MakeZeroCopyToList → tree_len t ≢ 0 → flag_of t ≡ false → IsRebuilt t r
  pub trimmed : mode ≡ TrimElements → tree_len t ≢ 0 → IsTrimmedToBounds t r
  pub exact_flagged : mode ≡ MakeExact → tree_len t ≢ 0 → flag_of t ≡ true → IsTrimmedToBounds t r
  pub exact : mode ≡ MakeExact → tree_len t ≢ 0 → flag_of t ≡ false → IsRebuilt t r
  pub same : rows r ≡ rows t
  pub refuses : rebuild_fault mode t ≡ None

not-refused : (t : Tree) → tree_len t ≢ 0 → rebuild_fault OverlapCompression t ≡ None → ⊥
not-refused t some none = refused (ap (λ b. cond b None (Some not_implemented)) (sym (ne_eqb (tree_len t) 0 some)) ∙ none)
  where
    refused : Some not_implemented ≡ None → ⊥
    refused h = cc

made-by : (mode : ListViewRebuildMode) (flag : Bool) (t r : Tree) → flag_of t ≡ flag → tree_len t ≢ 0 → IsRebuildAnswer mode t r → IsMadeBy mode flag t r
made-by MakeZeroCopyToList true t r is some answer = answer.flagged refl is
made-by MakeZeroCopyToList false t r is some answer = answer.rebuilt refl some is
made-by TrimElements true t r is some answer = answer.trimmed refl some
made-by TrimElements false t r is some answer = answer.trimmed refl some
made-by MakeExact true t r is some answer = answer.exact_flagged refl some is
made-by MakeExact false t r is some answer = answer.exact refl some is
made-by OverlapCompression true t r is some answer = absurd (not-refused t some answer.refuses)
made-by OverlapCompression false t r is some answer = absurd (not-refused t some answer.refuses)

rebuilt-by : (mode : ListViewRebuildMode) (t r : Tree) → IsRebuildAnswer mode t r → IsRebuiltBy mode t r
rebuilt-by mode t r answer = record { no_rows = answer.empty; some_rows = λ some. made-by mode (flag_of t) t r refl some answer }

flagged-kind : (t : Tree) → is_list_view t ≡ true → kind_of (with_flag true t) ≡ kind_of t
flagged-kind (list_view e o s v f) view = refl
flagged-kind (bools b bits v) view = absurd (cc)
flagged-kind (primitive p bs v) view = absurd (cc)
flagged-kind (constant k r n) view = absurd (cc)
flagged-kind (dictionary c v f) view = absurd (cc)
flagged-kind (fixed_list e k v n) view = absurd (cc)
flagged-kind (structure ns ts v n) view = absurd (cc)
flagged-kind (view_array vs bs k v) view = absurd (cc)

made-kind : (mode : ListViewRebuildMode) (flag : Bool) (t r : Tree) → IsMadeBy mode flag t r → kind_of r ≡ kind_of t
made-kind MakeZeroCopyToList true t r made = ap kind_of made
made-kind MakeZeroCopyToList false t r made = made.kind
made-kind TrimElements true t r made = made.3.kind
made-kind TrimElements false t r made = made.3.kind
made-kind MakeExact true t r made = made.3.kind
made-kind MakeExact false t r made = made.kind
made-kind OverlapCompression true t r made = absurd made
made-kind OverlapCompression false t r made = absurd made

rebuilt-kind : (n : ℕ) (mode : ListViewRebuildMode) (t r : Tree) → tree_len t ≡ n → is_list_view t ≡ true → IsRebuiltBy mode t r → kind_of r ≡ kind_of t
rebuilt-kind zero mode t r len view made = ap kind_of (made.no_rows len) ∙ flagged-kind t view
rebuilt-kind (suc n) mode t r len view made = made-kind mode (flag_of t) t r (made.some_rows (λ none. omega (arith, len, none)))

-- the list view that `rebuild` gives of the array t, as an array
pub step-rebuild : (arrays : List Tree) (array : ℕ) (mode : ListViewRebuildMode) (t r out : Tree) → t ≡ array_at arrays array
    → is_list_view (array_at arrays array) ≡ true → IsRebuildAnswer mode t r → out ≡ r → is_list_view out ≡ true → IsStep (Rebuild array mode) arrays out
step-rebuild arrays array mode t r out is view answer same laid =
    let made = rebuilt-by mode t r answer in
    let of = rebuilt-kind (tree_len t) mode t r refl (ap is_list_view is ∙ view) made ∙ ap kind_of is in
    subst (λ u. IsStep (Rebuild array mode) arrays u) (sym same) (record {
      same_rows = named_rows-same _ _ _ _ (ap names_in of) (answer.same ∙ ap rows is);
      kind = of;
      layout = (ap is_list_view (sym same) ∙ laid, subst (λ u. IsRebuiltBy mode u r) is made);
    })

narrow-kind : (t r : Tree) → is_primitive t ≡ true → is_primitive r ≡ true → IsNarrowed t r → kind_of r ≡ narrowed_kind (kind_of t) (rows t)
narrow-kind (primitive p bs v) (primitive q cs w) of laid made = λ i. integers (made.ptype i) (nullable (made.validity i))
narrow-kind (primitive p bs v) (bools b bits w) of laid made = absurd (cc)
narrow-kind (primitive p bs v) (constant k r n) of laid made = absurd (cc)
narrow-kind (primitive p bs v) (dictionary c w f) of laid made = absurd (cc)
narrow-kind (primitive p bs v) (fixed_list e k w n) of laid made = absurd (cc)
narrow-kind (primitive p bs v) (list_view e o s w f) of laid made = absurd (cc)
narrow-kind (primitive p bs v) (structure ns ts w n) of laid made = absurd (cc)
narrow-kind (primitive p bs v) (view_array vs cs k w) of laid made = absurd (cc)
narrow-kind (bools b bits v) r of laid made = absurd (cc)
narrow-kind (constant k s n) r of laid made = absurd (cc)
narrow-kind (dictionary c v f) r of laid made = absurd (cc)
narrow-kind (fixed_list e k v n) r of laid made = absurd (cc)
narrow-kind (list_view e o s v f) r of laid made = absurd (cc)
narrow-kind (structure ns ts v n) r of laid made = absurd (cc)
narrow-kind (view_array vs bs k v) r of laid made = absurd (cc)

narrowed-names : (k : Kind) (rs : List Row) → names_in (narrowed_kind k rs) ≡ names_in k
narrowed-names (booleans n) rs = refl
narrowed-names (integers t n) rs = refl
narrowed-names (texts n) rs = refl
narrowed-names (binaries n) rs = refl
narrowed-names (lists k n) rs = refl
narrowed-names (fixed_lists k size n) rs = refl
narrowed-names (records ns ks n) rs = refl

-- the numbers that `narrow` gives of the array t, as an array
pub step-narrow : (arrays : List Tree) (array : ℕ) (t r out : Tree) → t ≡ array_at arrays array → is_primitive (array_at arrays array) ≡ true → IsNarrowed t r
    → out ≡ r → is_primitive out ≡ true → IsStep (Narrow array) arrays out
step-narrow arrays array t r out is of made same laid =
    let plain : is_primitive r ≡ true = ap is_primitive (sym same) ∙ laid in
    let kind = narrow-kind t r (ap is_primitive is ∙ of) plain made ∙ ap (λ u. narrowed_kind (kind_of u) (rows u)) is in
    subst (λ u. IsStep (Narrow array) arrays u) (sym same) (record {
      same_rows = named_rows-same _ _ _ _ (ap names_in kind ∙ narrowed-names (kind_of (array_at arrays array)) (rows (array_at arrays array))) (made.same_rows ∙ ap rows is);
      kind = kind;
      layout = (plain, subst (λ u. IsNarrowed u r) is made);
    })

-- Texts and byte lists in plain layout.
use Rattle.std.proofs.Common.{ℕ, zero, suc, ◌+◌, ◌^◌, ◌<◌, ◌≤◌, ◌≡◌, ◌++◌, Bool, true, false, cond, List, [], ◌∷◌, length, map, take, replicate, get_or, Option, Some, None, refl, sym, ◌∙◌, ap, subst, add-zero, inl, inr, ◌⊎◌, ◌-◌, arith}
use Rattle.std.specs.Prelude.{count_by, IsTrue, IsUtf8, slice_range, slice_index_or, if◌then◌else◌}
use Rattle.std.specs.List.{All}
use Rattle.std.proofs.lemmas.Bool.{lt-ltb, le-ltb, cases_lt}
use Rattle.std.proofs.lemmas.List.Sums.{sum_by-cons}
use Rattle.std.proofs.lemmas.List.{length-append, take_all, take-append-le}
use Rattle.vx_base.specs.declared.scalar_value.ScalarValue.{ScalarValue}
use Rattle.vx_base.specs.declared.scalar_value.ScalarValue.TheVariants as value
use Rattle.vx_base.specs.Kinds.{Kind, Fits, is_nullable_kind}
use Rattle.vx_base.proofs.Defaults.{take_push}
use Rattle.vx_base.specs.Refusals.{refusal_of, IsMemoryOr, overflow}
use Rattle.vx_base.specs.declared.errors.VortexError.{VortexError}
use Rattle.vx_base.specs.Rows.{null}
use Rattle.vx_base.specs.ValueRows.{option_row, row_under}
use Rattle.vx_views.specs.Views.{view_size, view_prefix, view_value, view_of, buffer_at, padded, prefix_of}
use Rattle.vx_views.specs.Sound.{IsSoundView}
use Rattle.vx_views.specs.declared.view.TheConstants.{MAX_INLINED_SIZE}
use Rattle.vx_views.proofs.Places.{ReadsAs, view_of-reads, view_of_short, size_of_inlined, prefix_of_view}
use Rattle.vx_tree.specs.Tree.{Tree, view_array, Valid}
use Rattle.vx_tree.specs.Meaning.{is_valid_at, nullable, is_texts, value_row}
use Rattle.vx_tree.specs.Shapes.{state_of}
use Rattle.vx_tree.specs.Formed.{WellFormed, value_kind}
use Rattle.vx_tree.specs.RowParts.{is_long, is_long_row}
use Rattle.vx_tree.specs.Extents.{rows_extent, view_extent}
use Rattle.vx_canonical.specs.PlainValues.{FitsIfThere, values_valid, value_bytes, long_values, values_views, AreTexts, ArePlainValues}
use Rattle.vx_tree.specs.CanonicalFaults.{buffers_overflow}
use Rattle.vx_canonical.proofs.PlainValues.{values_valid-nullable, values_valid-plain, values_valid-fits, there_valid, row_of_value}
use Rattle.vx_tree.proofs.ViewArrays.{empty_is_zeroes}
use Rattle.vx_tree.proofs.Dictionaries.{memory_only}
use Rattle.vx_tree.proofs.Worked.{are_below, are_text}

-- ---- one value more

pub long_values-push : (vs : List (Option ScalarValue)) (v : Option ScalarValue) → long_values (vs ++ v ∷ []) ≡ long_values vs ++ long_values (v ∷ [])
long_values-push [] v = refl
long_values-push (w ∷ vs) v = elim (is_long (value_bytes w)) as (λ b. (if b then value_bytes w ∷ long_values (vs ++ v ∷ []) else long_values (vs ++ v ∷ [])) ≡ (if b then value_bytes w ∷ long_values vs else long_values vs) ++ long_values (v ∷ [])) [
  | true ↦ ap (λ xs. value_bytes w ∷ xs) (long_values-push vs v)
  | false ↦ long_values-push vs v
]

pub values_views-push : (n : ℕ) (vs : List (Option ScalarValue)) (v : Option ScalarValue) → values_views n (vs ++ v ∷ []) ≡ values_views n vs ++ view_of (value_bytes v) (n + length (long_values vs)) 0 ∷ []
values_views-push n [] v = rw add-zero refl
values_views-push n (w ∷ vs) v = ap (λ xs. view_of (value_bytes w) n 0 ∷ xs) (elim (is_long (value_bytes w)) as (λ b. values_views (if b then n + 1 else n) (vs ++ v ∷ []) ≡ values_views (if b then n + 1 else n) vs ++ view_of (value_bytes v) (n + length (if b then value_bytes w ∷ long_values vs else long_values vs)) 0 ∷ []) [
  | true ↦ let place : n + 1 + length (long_values vs) ≡ n + suc (length (long_values vs)) = omega arith in values_views-push (n + 1) vs v ∙ ap (λ m. values_views (n + 1) vs ++ view_of (value_bytes v) m 0 ∷ []) place
  | false ↦ values_views-push n vs v
])

pub values_views-long : (n : ℕ) (vs : List (Option ScalarValue)) → length (values_views n vs) ≡ length vs
values_views-long n [] = refl
values_views-long n (v ∷ vs) = ap suc (values_views-long (if is_long (value_bytes v) then n + 1 else n) vs)

-- ---- each view

get_or-append-length : (xs : List (List ℕ)) (y : List ℕ) (ys : List (List ℕ)) → get_or (xs ++ y ∷ ys) (length xs) [] ≡ y
get_or-append-length [] y ys = refl
get_or-append-length (x ∷ xs) y ys = get_or-append-length xs y ys

one_before : (xs : List (List ℕ)) (y : List ℕ) (ys : List (List ℕ)) → (xs ++ y ∷ []) ++ ys ≡ xs ++ y ∷ ys
one_before [] y ys = refl
one_before (x ∷ xs) y ys = ap (λ zs. x ∷ zs) (one_before xs y ys)

-- the view of a value in the buffer of a number, which holds it where it is long
pub record IsViewOf (buffers : List (List ℕ)) (value view : List ℕ) : Type 0 where
  pub block : ℕ
  pub is : view ≡ view_of value block 0
  pub there : MAX_INLINED_SIZE < length value → (block < length buffers) × (buffer_at buffers block ≡ value)

views_of : (before : List (List ℕ)) (n : ℕ) (vs : List (Option ScalarValue)) (i : ℕ) → n ≡ length before → i < length vs → IsViewOf (before ++ long_values vs) (value_bytes (slice_index_or vs i None)) (slice_index_or (values_views n vs) i [])
views_of before n [] i e l = absurd (omega arith)
views_of before n (v ∷ vs) zero e l = first (is_long (value_bytes v)) refl
  where
    first : (b : Bool) → is_long (value_bytes v) ≡ b → IsViewOf (before ++ (if b then value_bytes v ∷ long_values vs else long_values vs)) (value_bytes v) (view_of (value_bytes v) n 0)
    first true p = record {
      block = n;
      is = refl;
      there = λ long. (rw (length-append before (value_bytes v ∷ long_values vs)) (omega (arith, e)), rw e (get_or-append-length before (value_bytes v) (long_values vs)));
    }
    first false p = record { block = n; is = refl; there = λ long. let q = lt-ltb MAX_INLINED_SIZE (length (value_bytes v)) long in absurd (cc) }
views_of before n (v ∷ vs) (suc i) e l =
    let value = value_bytes v in
    elim (is_long value) as (λ b. IsViewOf (before ++ (if b then value ∷ long_values vs else long_values vs)) (value_bytes (slice_index_or vs i None)) (slice_index_or (values_views (if b then n + 1 else n) vs) i [])) [
      | true ↦ subst (λ bs. IsViewOf bs (value_bytes (slice_index_or vs i None)) (slice_index_or (values_views (n + 1) vs) i [])) (one_before before value (long_values vs)) (views_of (before ++ value ∷ []) (n + 1) vs i (omega (arith, e, length-append before (value ∷ []))) (omega arith))
      | false ↦ views_of before n vs i e (omega arith)
    ]

-- ---- sound views

whole_range : (xs : List ℕ) → slice_range xs 0 (0 + length xs) ≡ xs
whole_range xs = ap (λ n. take n xs) {x = 0 + length xs - 0} {y = length xs} (omega arith) ∙ take_all (length xs) xs (omega arith)

reads_value : (buffers : List (List ℕ)) (v view : List ℕ) → length buffers ≤ 2 ^ 32 → length v < 2 ^ 32 → (x : IsViewOf buffers v view) → ReadsAs buffers view v
reads_value buffers v view few small x =
    subst (λ w. ReadsAs buffers w v) (sym x.is) (view_of-reads buffers v x.block 0 (λ long.
    let there = x.there long in
    record { small = small; named = omega (arith, there.0); near = omega arith; buffer_in = there.0; within = rw there.1 (omega arith); same = rw there.1 (whole_range v) }))

prefix_long : (v : List ℕ) → MAX_INLINED_SIZE < length v → prefix_of v ≡ take 4 v
unfolding padded
prefix_long v long = take-append-le 4 v (replicate 4 0) (omega arith)

size_long : (v : List ℕ) (block : ℕ) → length v < 2 ^ 32 → MAX_INLINED_SIZE < view_size (view_of v block 0) → MAX_INLINED_SIZE < length v
size_long v block small long = by_length (cases_lt MAX_INLINED_SIZE (length v))
  where
    by_length : (MAX_INLINED_SIZE < length v) ⊎ (length v ≤ MAX_INLINED_SIZE) → MAX_INLINED_SIZE < length v
    by_length (inl h) = h
    by_length (inr h) = let same : view_size (view_of v block 0) ≡ length v = ap view_size (view_of_short v block 0 h) ∙ size_of_inlined v small in absurd (omega (arith, same, long, h))

view_sound : (buffers : List (List ℕ)) (u : Bool) (v view : List ℕ) → length buffers ≤ 2 ^ 32 → length v < 2 ^ 32 → (IsTrue u → IsUtf8 v) → IsViewOf buffers v view → IsSoundView buffers u view
view_sound buffers u v view few small utf8 x =
    let r = reads_value buffers v view few small x in
    record {
      resolves = r.resolves;
      begins = λ long.
          let size : MAX_INLINED_SIZE < view_size (view_of v x.block 0) = rw x.is at long in
          ap view_prefix x.is ∙ prefix_of_view v x.block 0 ∙ prefix_long v (size_long v x.block small size) ∙ ap (take 4) (sym r.reads);
      utf8 = λ on. subst IsUtf8 (sym r.reads) (utf8 on);
    }

short_bytes : (u n : Bool) (v : Option ScalarValue) → FitsIfThere (value_kind u n) v → length (value_bytes v) < 2 ^ 32
short_bytes u n None h = omega arith
short_bytes true n (Some (value.Text bs)) h = omega (arith, h.1)
short_bytes true n (Some (value.Bool b)) h = absurd h
short_bytes true n (Some (value.Int z)) h = absurd h
short_bytes true n (Some (value.Bytes bs)) h = absurd h
short_bytes true n (Some (value.List rs)) h = absurd h
short_bytes true n (Some (value.Record rs)) h = absurd h
short_bytes false n (Some (value.Bytes bs)) h = omega (arith, h.1)
short_bytes false n (Some (value.Bool b)) h = absurd h
short_bytes false n (Some (value.Int z)) h = absurd h
short_bytes false n (Some (value.Text bs)) h = absurd h
short_bytes false n (Some (value.List rs)) h = absurd h
short_bytes false n (Some (value.Record rs)) h = absurd h

text_bytes : (u n : Bool) (v : Option ScalarValue) → FitsIfThere (value_kind u n) v → IsTrue u → IsUtf8 (value_bytes v)
unfolding are_below
text_bytes u n None h on = are_text [] refl
text_bytes true n (Some (value.Text bs)) h on = h.0
text_bytes true n (Some (value.Bool b)) h on = absurd h
text_bytes true n (Some (value.Int z)) h on = absurd h
text_bytes true n (Some (value.Bytes bs)) h on = absurd h
text_bytes true n (Some (value.List rs)) h on = absurd h
text_bytes true n (Some (value.Record rs)) h on = absurd h
text_bytes false n (Some x) h on = absurd (cc)

bytes_row : (u n : Bool) (x : ScalarValue) → Fits (value_kind u n) (row_under (value_kind u n) (Some x)) → value_row u (value_bytes (Some x)) ≡ row_under (value_kind u n) (Some x)
bytes_row true n (value.Text bs) h = refl
bytes_row true n (value.Bool b) h = absurd h
bytes_row true n (value.Int z) h = absurd h
bytes_row true n (value.Bytes bs) h = absurd h
bytes_row true n (value.List rs) h = absurd h
bytes_row true n (value.Record rs) h = absurd h
bytes_row false n (value.Bytes bs) h = refl
bytes_row false n (value.Bool b) h = absurd h
bytes_row false n (value.Int z) h = absurd h
bytes_row false n (value.Text bs) h = absurd h
bytes_row false n (value.List rs) h = absurd h
bytes_row false n (value.Record rs) h = absurd h

kind_facts : (u n : Bool) → (is_texts (value_kind u n) ≡ u) × (is_nullable_kind (value_kind u n) ≡ n)
kind_facts true n = (refl, refl)
kind_facts false n = (refl, refl)

null_none : (u n : Bool) → (null ≡ row_under (value_kind u n) None) × (Fits (value_kind u n) (row_under (value_kind u n) None) → is_nullable_kind (value_kind u n) ≡ true)
null_none true n = (refl, λ h. h)
null_none false n = (refl, λ h. h)

-- ---- the array

view_at : (vs : List (Option ScalarValue)) (ws bs : List (List ℕ)) (i : ℕ) → AreTexts vs ws bs → i < length vs → IsViewOf bs (value_bytes (slice_index_or vs i None)) (slice_index_or ws i [])
view_at vs ws bs i x l = rw (x.views, x.buffers) (views_of [] 0 vs i refl l)

absent_value : (b : Bool) (vs : List (Option ScalarValue)) (i : ℕ) → i < length vs → is_valid_at (values_valid b vs) i ≡ false → slice_index_or vs i None ≡ None
absent_value b vs i l none = by_value (slice_index_or vs i None) refl
  where
    by_value : (v : Option ScalarValue) → slice_index_or vs i None ≡ v → slice_index_or vs i None ≡ None
    by_value None e = e
    by_value (Some x) e = let t : true ≡ false = sym (there_valid b vs i x l e) ∙ none in absurd (cc)

zero_view : (bs : List (List ℕ)) (v : Option ScalarValue) (view : List ℕ) → v ≡ None → IsViewOf bs (value_bytes v) view → view ≡ replicate 16 0
zero_view bs v view none x =
    let empty : value_bytes v ≡ [] = ap value_bytes none in
    x.is ∙ ap (λ (b : List ℕ). view_of b x.block 0) empty ∙ empty_is_zeroes

texts_formed-of : (u n : Bool) (vs : List (Option ScalarValue)) (ws bs : List (List ℕ)) (v : Valid) → v ≡ values_valid n vs → All (FitsIfThere (value_kind u n)) vs → AreTexts vs ws bs → WellFormed (view_array ws bs (value_kind u n) v)
texts_formed-of u n vs ws bs v e fit x =
    let long : length ws ≡ length vs = ap length x.views ∙ values_views-long 0 vs in
    let isu = (kind_facts u n).0 in
    rw e (
      values_valid-fits n vs (length ws) long,
      record {
        kind = sym (ap (λ b. value_kind b (nullable (values_valid n vs))) isu ∙ ap (value_kind u) (values_valid-nullable n vs));
        sound = λ i l valid.
            let here : i < length vs = rw long at l in
            let value = slice_index_or vs i None in
            subst (λ b. IsSoundView bs b (slice_index_or ws i [])) (sym isu) (view_sound bs u (value_bytes value) (slice_index_or ws i []) x.few (short_bytes u n value (fit i None here)) (text_bytes u n value (fit i None here)) (view_at vs ws bs i x here));
        zeroes = λ i l none.
            let here : i < length vs = rw long at l in
            zero_view bs (slice_index_or vs i None) (slice_index_or ws i []) (absent_value n vs i here none) (view_at vs ws bs i x here);
      },
    )

-- ---- the buffers of values

long_row : (v : Option ScalarValue) → is_long_row (option_row v) ≡ is_long (value_bytes v)
long_row None = refl
long_row (Some (value.Bool b)) = refl
long_row (Some (value.Int z)) = refl
long_row (Some (value.Bytes bs)) = refl
long_row (Some (value.Text bs)) = refl
long_row (Some (value.List rs)) = refl
long_row (Some (value.Record rs)) = refl

long_more : (b : Bool) (v : Option ScalarValue) (vs : List (Option ScalarValue)) → is_long_row (option_row v) ≡ b → count_by is_long_row (map option_row vs) ≡ length (long_values vs)
    → count_by is_long_row (map option_row (v ∷ vs)) ≡ length (if b then value_bytes v ∷ long_values vs else long_values vs)
long_more true v vs e rest = sum_by-cons (λ y. cond (is_long_row y) 1 0) (option_row v) (map option_row vs) ∙ (λ i. cond (e i) 1 0 + rest i) ∙ omega arith
long_more false v vs e rest = sum_by-cons (λ y. cond (is_long_row y) 1 0) (option_row v) (map option_row vs) ∙ (λ i. cond (e i) 1 0 + rest i) ∙ omega arith

pub long_rows : (vs : List (Option ScalarValue)) → count_by is_long_row (map option_row vs) ≡ length (long_values vs)
long_rows [] = refl
long_rows (v ∷ vs) = long_more (is_long (value_bytes v)) v vs (long_row v) (long_rows vs)

texts_extent : (u n : Bool) (vs : List (Option ScalarValue)) → view_extent (length (long_values vs)) ≡ rows_extent (value_kind u n) (map option_row vs)
texts_extent true n vs = ap view_extent (sym (long_rows vs))
texts_extent false n vs = ap view_extent (sym (long_rows vs))

-- ---- in plain layout

texts_made-of : (u n : Bool) (t : Tree) (vs : List (Option ScalarValue)) (ws bs : List (List ℕ)) (v : Valid) → v ≡ values_valid n vs → All (FitsIfThere (value_kind u n)) vs → AreTexts vs ws bs → t ≡ view_array ws bs (value_kind u n) v
    → ArePlainValues (value_kind u n) vs t
texts_made-of u n t vs ws bs v e fit x a =
    let isn = (kind_facts u n).1 in
    rw (a, e) (record {
      len = ap length x.views ∙ values_views-long 0 vs;
      kind = refl;
      plain = values_valid-plain n vs;
      extent = ap (λ xs. view_extent (length xs)) x.buffers ∙ texts_extent u n vs;
      flag = refl;
      state = ap (λ b. state_of (values_valid b vs)) (sym isn);
      rows = λ i l fits.
          let k = value_kind u n in
          let r = value_row (is_texts k) (view_value bs (slice_index_or ws i [])) in
          ap (λ b. if is_valid_at (values_valid b vs) i then r else null) (sym isn)
          ∙ row_of_value k vs i r l (λ y here h.
          let reads = (reads_value bs (value_bytes (slice_index_or vs i None)) (slice_index_or ws i []) x.few (short_bytes u n (slice_index_or vs i None) (fit i None l)) (view_at vs ws bs i x l)).reads in
          ap (λ b. value_row b (view_value bs (slice_index_or ws i []))) (kind_facts u n).0 ∙ ap (value_row u) (reads ∙ ap value_bytes here) ∙ bytes_row u n y h)
          (null_none u n).0 (null_none u n).1 fits;
    })

pub texts_formed : (k : Kind) (vs : List (Option ScalarValue)) (ws bs : List (List ℕ)) (v : Valid) → k ≡ value_kind (is_texts k) (is_nullable_kind k) → v ≡ values_valid (is_nullable_kind k) vs → All (FitsIfThere k) vs → AreTexts vs ws bs
    → WellFormed (view_array ws bs k v)
texts_formed k vs ws bs v kind e fit x =
    subst (λ j. WellFormed (view_array ws bs j v)) (sym kind) (texts_formed-of (is_texts k) (is_nullable_kind k) vs ws bs v e (subst (λ j. All (FitsIfThere j) vs) kind fit) x)

pub texts_made : (k : Kind) (t : Tree) (vs : List (Option ScalarValue)) (ws bs : List (List ℕ)) (v : Valid) → k ≡ value_kind (is_texts k) (is_nullable_kind k) → v ≡ values_valid (is_nullable_kind k) vs → All (FitsIfThere k) vs → AreTexts vs ws bs
    → t ≡ view_array ws bs k v → ArePlainValues k vs t
texts_made k t vs ws bs v kind e fit x a =
    subst (λ j. ArePlainValues j vs t) (sym kind) (texts_made-of (is_texts k) (is_nullable_kind k) t vs ws bs v e (subst (λ j. All (FitsIfThere j) vs) kind fit) x (a ∙ ap (λ j. view_array ws bs j v) kind))

-- ---- one by one

pub few_fault : (n : ℕ) → n ≤ 2 ^ 32 → buffers_overflow n ≡ None
few_fault n h = rw (le-ltb (2 ^ 32) n h) refl

pub many_fault : (n : ℕ) → 2 ^ 32 < n → buffers_overflow n ≡ Some overflow
many_fault n h = rw (lt-ltb (2 ^ 32) n h) refl

refused_of : (some all : ℕ) (e : VortexError) → some ≤ all → buffers_overflow some ≡ refusal_of e → IsMemoryOr (buffers_overflow all) e
refused_of some all e fewer same = by_count (cases_lt (2 ^ 32) some)
  where
    by_count : (2 ^ 32 < some) ⊎ (some ≤ 2 ^ 32) → IsMemoryOr (buffers_overflow all) e
    by_count (inl h) = inr (many_fault all (omega (arith, h, fewer)) ∙ sym (many_fault some h) ∙ same)
    by_count (inr h) = inl (memory_only None e refl (inr (sym (few_fault some h) ∙ same)))

long_values-take : (vs : List (Option ScalarValue)) (i : ℕ) → length (long_values (take i vs)) ≤ length (long_values vs)
long_values-take [] zero = omega arith
long_values-take [] (suc i) = omega arith
long_values-take (v ∷ vs) zero = omega arith
long_values-take (v ∷ vs) (suc i) = elim (is_long (value_bytes v)) as (λ b. length (if b then value_bytes v ∷ long_values (take i vs) else long_values (take i vs)) ≤ length (if b then value_bytes v ∷ long_values vs else long_values vs)) [
  | true ↦ omega (arith, long_values-take vs i)
  | false ↦ long_values-take vs i
]

pub AreTexts-next : (vs : List (Option ScalarValue)) (i : ℕ) (v : Option ScalarValue) (ws bs us cs : List (List ℕ)) (view : List ℕ) → AreTexts (take i vs) ws bs → i < length vs → v ≡ slice_index_or vs i v → view ≡ view_of (value_bytes v) (length bs) 0
    → us ≡ ws ++ view ∷ [] → cs ≡ bs ++ long_values (v ∷ []) → length cs ≤ 2 ^ 32 → AreTexts (take (i + 1) vs) us cs
AreTexts-next vs i v ws bs us cs view x l here made pushed grown few =
    let before = take i vs in
    let more : take (i + 1) vs ≡ before ++ v ∷ [] = take_push vs i v l here in
    let viewed : view ≡ view_of (value_bytes v) (0 + length (long_values before)) 0 = made ∙ ap (λ (xs : List (List ℕ)). view_of (value_bytes v) (length xs) 0) x.buffers ∙ ap (λ m. view_of (value_bytes v) m 0) {x = length (long_values before)} {y = 0 + length (long_values before)} (omega arith) in
    rw more (record {
      views = pushed ∙ (λ j. x.views j ++ viewed j ∷ []) ∙ sym (values_views-push 0 before v);
      buffers = grown ∙ ap (λ xs. xs ++ long_values (v ∷ [])) x.buffers ∙ sym (long_values-push before v);
      few = few;
    })

pub AreTexts-all : (vs : List (Option ScalarValue)) (i : ℕ) (ws bs : List (List ℕ)) → AreTexts (take i vs) ws bs → length vs ≤ i → AreTexts vs ws bs
AreTexts-all vs i ws bs x l = rw (take_all i vs l) at x

pub texts_short : (k : Kind) (vs : List (Option ScalarValue)) → k ≡ value_kind (is_texts k) (is_nullable_kind k) → All (FitsIfThere k) vs → All (λ v. length (value_bytes v) < 2 ^ 32) vs
texts_short k vs kind fit = λ i d l. short_bytes (is_texts k) (is_nullable_kind k) (slice_index_or vs i d) (subst (λ j. FitsIfThere j (slice_index_or vs i d)) kind (fit i d l))

pub texts_fault : (vs : List (Option ScalarValue)) (ws bs : List (List ℕ)) → AreTexts vs ws bs → buffers_overflow (length (long_values vs)) ≡ None
texts_fault vs ws bs x = few_fault (length (long_values vs)) (rw x.buffers at x.few)

-- the error of the first value that has one is that of the values
pub texts_refused : (vs : List (Option ScalarValue)) (i : ℕ) (v : Option ScalarValue) (ws bs : List (List ℕ)) (e : VortexError) → AreTexts (take i vs) ws bs → i < length vs → v ≡ slice_index_or vs i v
    → IsMemoryOr (buffers_overflow (length bs + length (long_values (v ∷ [])))) e → IsMemoryOr (buffers_overflow (length (long_values vs))) e
texts_refused vs i v ws bs e x l here (inl memory) = inl memory
texts_refused vs i v ws bs e x l here (inr same) =
    let before = take i vs in
    let some = length bs + length (long_values (v ∷ [])) in
    let more : take (i + 1) vs ≡ before ++ v ∷ [] = take_push vs i v l here in
    let grown : length (long_values (take (i + 1) vs)) ≡ some = ap (λ xs. length (long_values xs)) more ∙ ap length (long_values-push before v) ∙ length-append (long_values before) (long_values (v ∷ [])) ∙ ap (λ (xs : List (List ℕ)). length xs + length (long_values (v ∷ []))) (sym x.buffers) in
    refused_of some (length (long_values vs)) e (omega (arith, grown, long_values-take vs (i + 1))) same

pub ruleset value_texts = (texts_formed, texts_made, texts_short)

pub ruleset next = (AreTexts-next, AreTexts-all, texts_refused, texts_fault)

-- Of rows those that are there alone keep elements and buffers, and null rows need elements of lists of one size alone.
use Rattle.std.proofs.Common.{ℕ, zero, suc, ◌+◌, ◌*◌, ◌^◌, ◌<◌, ◌≡◌, Bool, true, false, cond, List, [], ◌∷◌, ◌++◌, length, map, replicate, get_or, Option, Some, None, refl, sym, ◌∙◌, ap, subst, inl, inr, arith}
use Rattle.std.specs.Prelude.{count_by, nat_lt, if◌then◌else◌}
use Rattle.std.specs.List.{All, filter, flat_map, fold}
use Rattle.std.proofs.lemmas.Bool.{lt-ltb}
use Rattle.std.proofs.lemmas.List.{get_or-map, length-map}
use Rattle.std.proofs.lemmas.List.Elements.{All-nil, filter-append}
use Rattle.vx_base.specs.declared.scalar_value.ScalarValue.{ScalarValue}
use Rattle.vx_base.specs.Kinds.{Kind, booleans, integers, texts, binaries, lists, fixed_lists, records, Kinds, no_kinds, kind}
use Rattle.vx_base.specs.Refusals.{Refusal, overflow, or_else}
use Rattle.vx_base.specs.Rows.{Row, null, boolean, whole, bytes, text, items, record_of, is_present}
use Rattle.vx_base.specs.ValueRows.{option_row}
use Rattle.vx_tree.specs.RowParts.{field_in, is_long_row, items_in, items_or_nulls}
use Rattle.vx_tree.specs.Extents.{rows_extent, fields_extents, extent, view_extent, list_extent, fixed_list_extent, struct_extent}
use Rattle.vx_canonical.specs.PlainValues.{FitsIfThere, FitsNamed}
use Rattle.vx_tree.specs.CanonicalFaults.{buffers_overflow, fields_fault, kept_fault, kept_fields_fault, rows_fault}
use Rattle.vx_tree.specs.CanonicalFaults.{plain_overflow, fields_overflow}
use Rattle.vx_canonical.proofs.CanonicalArrays.{or_none}
use Rattle.vx_canonical.proofs.Overflows.{IsOverflow, fields_only, kept_only}
use Rattle.vx_canonical.proofs.PlainParts.{all_named_rows, fit_each, fixed_items_fit, sized_length, field_fits}
use Rattle.vx_canonical.proofs.RowNames.{from_field, next_field}

-- the rows that are there
abbrev pub there : List Row → List Row
there rs = filter is_present rs

-- ---- the parts of rows are those of the rows that are there

flat_there : (f : Row → List Row) → f null ≡ [] → (rs : List Row) → flat_map f rs ≡ flat_map f (there rs)
flat_there f none [] = refl
flat_there f none (null ∷ rs) = λ i. none i ++ flat_there f none rs i
flat_there f none (boolean b ∷ rs) = ap (λ xs. f (boolean b) ++ xs) (flat_there f none rs)
flat_there f none (whole z ∷ rs) = ap (λ xs. f (whole z) ++ xs) (flat_there f none rs)
flat_there f none (bytes bs ∷ rs) = ap (λ xs. f (bytes bs) ++ xs) (flat_there f none rs)
flat_there f none (text bs ∷ rs) = ap (λ xs. f (text bs) ++ xs) (flat_there f none rs)
flat_there f none (items qs ∷ rs) = ap (λ xs. f (items qs) ++ xs) (flat_there f none rs)
flat_there f none (record_of fs ∷ rs) = ap (λ xs. f (record_of fs) ++ xs) (flat_there f none rs)

long_from : (a : ℕ) (rs : List Row) → fold (λ n r. n + cond (is_long_row r) 1 0) a rs ≡ fold (λ n r. n + cond (is_long_row r) 1 0) a (there rs)
long_from a [] = refl
long_from a (null ∷ rs) = ap (λ b. fold (λ n r. n + cond (is_long_row r) 1 0) b rs) {x = a + 0} {y = a} (omega arith) ∙ long_from a rs
long_from a (boolean b ∷ rs) = long_from (a + 0) rs
long_from a (whole z ∷ rs) = long_from (a + 0) rs
long_from a (bytes bs ∷ rs) = long_from (a + cond (is_long_row (bytes bs)) 1 0) rs
long_from a (text bs ∷ rs) = long_from (a + cond (is_long_row (text bs)) 1 0) rs
long_from a (items qs ∷ rs) = long_from (a + 0) rs
long_from a (record_of fs ∷ rs) = long_from (a + 0) rs

long_there : (rs : List Row) → count_by is_long_row rs ≡ count_by is_long_row (there rs)
long_there rs = long_from 0 rs

no_nulls : (n : ℕ) → there (replicate n null) ≡ []
no_nulls zero = refl
no_nulls (suc n) = no_nulls n

there_flat : (f : Row → List Row) (rs : List Row) → there (flat_map f rs) ≡ flat_map (λ r. there (f r)) rs
there_flat f [] = refl
there_flat f (r ∷ rs) = filter-append is_present (f r) (flat_map f rs) ∙ ap (λ xs. there (f r) ++ xs) (there_flat f rs)

there_each : (f : Row → Row) (rs : List Row) → there (map f rs) ≡ flat_map (λ r. there (f r ∷ [])) rs
there_each f [] = refl
there_each f (r ∷ rs) = filter-append is_present (f r ∷ []) (map f rs) ∙ ap (λ xs. there (f r ∷ []) ++ xs) (there_each f rs)

items_there : (rs : List Row) → flat_map items_in rs ≡ flat_map items_in (there rs)
items_there rs = flat_there items_in refl rs

list_there : (size : ℕ) (r : Row) → there (items_or_nulls size r) ≡ there (items_in r)
list_there size null = no_nulls size
list_there size (boolean b) = no_nulls size
list_there size (whole z) = no_nulls size
list_there size (bytes bs) = no_nulls size
list_there size (text bs) = no_nulls size
list_there size (items qs) = refl
list_there size (record_of fs) = no_nulls size

each_there : (size : ℕ) (rs : List Row) → flat_map (λ r. there (items_or_nulls size r)) rs ≡ flat_map (λ r. there (items_in r)) rs
each_there size [] = refl
each_there size (r ∷ rs) = λ i. list_there size r i ++ each_there size rs i

pub sized_there : (size : ℕ) (rs : List Row) → there (flat_map (items_or_nulls size) rs) ≡ there (flat_map items_in rs)
sized_there size rs = there_flat (items_or_nulls size) rs ∙ each_there size rs ∙ sym (there_flat items_in rs)

fields_there : (c : ℕ) (rs : List Row) → there (map (field_in c) rs) ≡ there (map (field_in c) (there rs))
fields_there c rs =
    let f = field_in c in
    there_each f rs ∙ flat_there (λ r. there (f r ∷ [])) refl rs ∙ sym (there_each f (there rs))

-- ---- and so are their elements and buffers

mutual
  pub rows_extent-there : (k : Kind) (rs : List Row) → rows_extent k rs ≡ rows_extent k (there rs)
  rows_extent-there (booleans m) rs = refl
  rows_extent-there (integers t m) rs = refl
  rows_extent-there (texts m) rs = ap view_extent (long_there rs)
  rows_extent-there (binaries m) rs = ap view_extent (long_there rs)
  rows_extent-there (lists k m) rs = ap (λ qs. list_extent (length qs) (rows_extent k qs)) (items_there rs)
  rows_extent-there (fixed_lists k size m) rs =
      let same = sized_there size rs ∙ ap there (items_there rs) ∙ sym (sized_there size (there rs)) in
      let f = items_or_nulls size in
      ap fixed_list_extent (rows_extent-there k (flat_map f rs) ∙ ap (rows_extent k) same ∙ sym (rows_extent-there k (flat_map f (there rs))))
  rows_extent-there (records names ks m) rs = ap struct_extent (fields_extents-there ks 0 rs)

  fields_extents-there : (ks : Kinds) (c : ℕ) (rs : List Row) → fields_extents ks c rs ≡ fields_extents ks c (there rs)
  fields_extents-there no_kinds c rs = refl
  fields_extents-there (kind k ks) c rs =
      let f = field_in c in
      let here = rows_extent-there k (map f rs) ∙ ap (rows_extent k) (fields_there c rs) ∙ sym (rows_extent-there k (map f (there rs))) in
      λ i. extent (here i) (fields_extents-there ks (suc c) rs i)

mutual
  pub kept_fault-there : (k : Kind) (rs : List Row) → kept_fault k rs ≡ kept_fault k (there rs)
  kept_fault-there (booleans m) rs = refl
  kept_fault-there (integers t m) rs = refl
  kept_fault-there (texts m) rs = ap buffers_overflow (long_there rs)
  kept_fault-there (binaries m) rs = ap buffers_overflow (long_there rs)
  kept_fault-there (lists k m) rs = ap (rows_fault k) (items_there rs)
  kept_fault-there (fixed_lists k size m) rs = ap (kept_fault k) (items_there rs)
  kept_fault-there (records names ks m) rs = kept_fields_fault-there ks 0 rs

  kept_fields_fault-there : (ks : Kinds) (c : ℕ) (rs : List Row) → kept_fields_fault ks c rs ≡ kept_fields_fault ks c (there rs)
  kept_fields_fault-there no_kinds c rs = refl
  kept_fields_fault-there (kind k ks) c rs =
      let f = field_in c in
      let here = kept_fault-there k (map f rs) ∙ ap (kept_fault k) (fields_there c rs) ∙ sym (kept_fault-there k (map f (there rs))) in
      λ i. or_else (here i) (kept_fields_fault-there ks (suc c) rs i)

-- ---- no rows and rows of null

mutual
  pub rows_fault-none : (k : Kind) → rows_fault k [] ≡ None
  rows_fault-none (booleans m) = refl
  rows_fault-none (integers t m) = refl
  rows_fault-none (texts m) = refl
  rows_fault-none (binaries m) = refl
  rows_fault-none (lists k m) = rows_fault-none k
  rows_fault-none (fixed_lists k size m) = let few : nat_lt (0 * size) (2 ^ 64) ≡ true = lt-ltb (0 * size) (2 ^ 64) (omega arith) in rw few (rows_fault-none k)
  rows_fault-none (records names ks m) = fields_fault-none ks 0

  fields_fault-none : (ks : Kinds) (c : ℕ) → fields_fault ks c [] ≡ None
  fields_fault-none no_kinds c = refl
  fields_fault-none (kind k ks) c = rw (rows_fault-none k) (fields_fault-none ks (suc c))

mutual
  kept_fault-none : (k : Kind) → kept_fault k [] ≡ None
  kept_fault-none (booleans m) = refl
  kept_fault-none (integers t m) = refl
  kept_fault-none (texts m) = refl
  kept_fault-none (binaries m) = refl
  kept_fault-none (lists k m) = rows_fault-none k
  kept_fault-none (fixed_lists k size m) = kept_fault-none k
  kept_fault-none (records names ks m) = kept_fields_fault-none ks 0

  kept_fields_fault-none : (ks : Kinds) (c : ℕ) → kept_fields_fault ks c [] ≡ None
  kept_fields_fault-none no_kinds c = refl
  kept_fields_fault-none (kind k ks) c = rw (kept_fault-none k) (kept_fields_fault-none ks (suc c))

pub kept_fault-nulls : (k : Kind) (n : ℕ) → kept_fault k (replicate n null) ≡ None
kept_fault-nulls k n = kept_fault-there k (replicate n null) ∙ ap (kept_fault k) (no_nulls n) ∙ kept_fault-none k

pub rows_extent-nulls : (k : Kind) (n : ℕ) → rows_extent k (replicate n null) ≡ rows_extent k []
rows_extent-nulls k n = rows_extent-there k (replicate n null) ∙ ap (rows_extent k) (no_nulls n)

-- ---- where they fit

each_field_fits : (names : List (List ℕ)) (ks js : Kinds) (m : Bool) (j : Kind) (c : ℕ) (rs : List Row) → All (FitsNamed (records names ks m)) rs → from_field c ks ≡ kind j js → All (FitsNamed j) (map (field_in c) rs)
each_field_fits names ks js m j c rs h e = λ i d l.
    let inside : i < length rs = rw (length-map rs (field_in c)) at l in
    subst (FitsNamed j) (sym (get_or-map (field_in c) rs i null d inside)) (field_fits names ks js m j c (get_or rs i null) (h i null inside) e)

-- ---- what rows need: elements of lists of one size for so many rows, and what they keep

commuted : (a b c d : Option Refusal) → IsOverflow b → IsOverflow c → or_else (or_else a b) (or_else c d) ≡ or_else (or_else a c) (or_else b d)
commuted (Some r) b c d x y = refl
commuted None b c d (inl none) y = ap (λ f. or_else f (or_else c d)) none ∙ sym (ap (λ f. or_else c (or_else f d)) none)
commuted None b c d (inr some) y = ap (λ f. or_else f (or_else c d)) some ∙ sym (ap (λ f. or_else c (or_else f d)) some ∙ later c y)
  where
    later : (c : Option Refusal) → IsOverflow c → or_else c (Some overflow) ≡ Some overflow
    later c (inl none) = ap (λ f. or_else f (Some overflow)) none
    later c (inr some) = ap (λ f. or_else f (Some overflow)) some

unless_both : (b : Bool) (f g h : Option Refusal) → f ≡ or_else g h → (if b then f else Some overflow) ≡ or_else (if b then g else Some overflow) h
unless_both true f g h e = e
unless_both false f g h e = refl

mutual
  pub rows_fault-kept : (k : Kind) (rs : List Row) → All (FitsNamed k) rs → rows_fault k rs ≡ or_else (plain_overflow k (length rs)) (kept_fault k rs)
  rows_fault-kept (booleans m) rs all = refl
  rows_fault-kept (integers t m) rs all = refl
  rows_fault-kept (texts m) rs all = refl
  rows_fault-kept (binaries m) rs all = refl
  rows_fault-kept (lists k m) rs all = refl
  rows_fault-kept (fixed_lists k size m) rs all =
      let qs = flat_map (items_or_nulls size) rs in
      let kept : kept_fault k qs ≡ kept_fault k (flat_map items_in rs) = kept_fault-there k qs ∙ ap (kept_fault k) (sized_there size rs) ∙ sym (kept_fault-there k (flat_map items_in rs)) in
      let inner = rows_fault-kept k qs (fit_each (FitsNamed (fixed_lists k size m)) (FitsNamed k) (items_or_nulls size) (fixed_items_fit k size m) rs all) in
      unless_both (nat_lt (length rs * size) (2 ^ 64)) (rows_fault k qs) (plain_overflow k (length rs * size)) (kept_fault k (flat_map items_in rs))
      (inner ∙ (λ i. or_else (plain_overflow k (sized_length k size m rs all i)) (kept i)))
  rows_fault-kept (records names ks m) rs all = fields_fault-kept names ks ks m 0 rs all refl

  fields_fault-kept : (names : List (List ℕ)) (ks js : Kinds) (m : Bool) (c : ℕ) (rs : List Row) → All (FitsNamed (records names ks m)) rs → from_field c ks ≡ js → fields_fault js c rs ≡ or_else (fields_overflow js (length rs)) (kept_fields_fault js c rs)
  fields_fault-kept names ks no_kinds m c rs all e = refl
  fields_fault-kept names ks (kind j js) m c rs all e =
      let fs = map (field_in c) rs in
      let n = length rs in
      let here = rows_fault-kept j fs (each_field_fits names ks js m j c rs all e) ∙ ap (λ n. or_else (plain_overflow j n) (kept_fault j fs)) (length-map rs (field_in c)) in
      (λ i. or_else (here i) (fields_fault-kept names ks js m (suc c) rs all (next_field c ks js j e) i))
      ∙ commuted (plain_overflow j n) (kept_fault j fs) (fields_overflow js n) (kept_fields_fault js (suc c) rs) (kept_only j fs) (fields_only js n)

-- the same of values
pub values_fault : (k : Kind) (vs : List (Option ScalarValue)) → All (FitsIfThere k) vs → rows_fault k (map option_row vs) ≡ or_else (plain_overflow k (length vs)) (kept_fault k (map option_row vs))
values_fault k vs all =
    rows_fault-kept k (map option_row vs) (all_named_rows k vs all) ∙ ap (λ n. or_else (plain_overflow k n) (kept_fault k (map option_row vs))) (length-map vs option_row)

pub values_counted : (k : Kind) (vs : List (Option ScalarValue)) → All (FitsIfThere k) vs → plain_overflow k (length vs) ≡ None → rows_fault k (map option_row vs) ≡ kept_fault k (map option_row vs)
values_counted k vs all few = values_fault k vs all ∙ ap (λ f. or_else f (kept_fault k (map option_row vs))) few

pub values_uncounted : (k : Kind) (vs : List (Option ScalarValue)) → All (FitsIfThere k) vs → plain_overflow k (length vs) ≡ Some overflow → rows_fault k (map option_row vs) ≡ Some overflow
values_uncounted k vs all many = values_fault k vs all ∙ ap (λ f. or_else f (kept_fault k (map option_row vs))) many

-- no rows are none too many
pub no_rows_countable : (k : Kind) → plain_overflow k 0 ≡ None
no_rows_countable k = (or_none (plain_overflow k 0) (kept_fault k []) (sym (rows_fault-kept k [] (All-nil (FitsNamed k))) ∙ rows_fault-none k)).0

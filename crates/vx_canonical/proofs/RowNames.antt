-- Rows, the names of their kind, and rows of null.
use Rattle.std.proofs.Common.{ℕ, zero, suc, ◌*◌, ◌^◌, ◌≡◌, Bool, true, false, List, [], ◌∷◌, ◌++◌, length, map, replicate, Some, refl, sym, ◌∙◌, ap}
use Rattle.std.specs.Prelude.{◌&&◌, nat_lt, if◌then◌else◌}
use Rattle.std.specs.List.{flat_map}
use Rattle.std.proofs.lemmas.List.{length-map, map-append}
use Rattle.vx_base.specs.Defaults.{is_even, even_fields}
use Rattle.vx_base.specs.Kinds.{Kind, booleans, integers, texts, binaries, lists, fixed_lists, records, Kinds, no_kinds, kind, or_nullable}
use Rattle.vx_base.specs.Refusals.{overflow, or_else}
use Rattle.vx_base.specs.Rows.{Row, null, boolean, whole, bytes, text, items, record_of, Rows, no_rows, row, Fields, no_fields, field, list_from}
use Rattle.vx_base.specs.ValueRows.{named, all_named, fields_named}
use Rattle.vx_tree.specs.RowParts.{field_at, field_in, items_in, items_or_nulls}
use Rattle.vx_tree.specs.Extents.{rows_extent, fields_extents, extent, list_extent, fixed_list_extent, struct_extent}
use Rattle.vx_tree.specs.CanonicalFaults.{fields_fault, kept_fault, kept_fields_fault, rows_fault}

both_true : (a b : Bool) → (a && b) ≡ true → (a ≡ true) × (b ≡ true)
both_true true b h = (refl, h)
both_true false b h = cc

-- ---- names change neither a fault nor an extent

flat_named : (k j : Kind) (f : Row → List Row) → ((r : Row) → f (named j r) ≡ map (named k) (f r)) → (rs : List Row) → flat_map f (map (named j) rs) ≡ map (named k) (flat_map f rs)
flat_named k j f h [] = refl
flat_named k j f h (r ∷ rs) = (λ i. h r i ++ flat_named k j f h rs i) ∙ sym (map-append (named k) (f r) (flat_map f rs))

pub named_null : (k : Kind) → named k null ≡ null
named_null (booleans n) = refl
named_null (integers t n) = refl
named_null (texts n) = refl
named_null (binaries n) = refl
named_null (lists k n) = refl
named_null (fixed_lists k size n) = refl
named_null (records names ks n) = refl

list_named : (k : Kind) (rs : Rows) → list_from (all_named k rs) ≡ map (named k) (list_from rs)
list_named k no_rows = refl
list_named k (row r rs) = ap (λ xs. named k r ∷ xs) (list_named k rs)

items_named : (k : Kind) (m : Bool) (r : Row) → items_in (named (lists k m) r) ≡ map (named k) (items_in r)
items_named k m null = refl
items_named k m (boolean b) = refl
items_named k m (whole z) = refl
items_named k m (bytes bs) = refl
items_named k m (text bs) = refl
items_named k m (items rs) = list_named k rs
items_named k m (record_of fs) = refl

nulls_named : (k : Kind) (n : ℕ) → replicate n null ≡ map (named k) (replicate n null)
nulls_named k zero = refl
nulls_named k (suc n) = λ i. sym (named_null k) i ∷ nulls_named k n i

fixed_items_named : (k : Kind) (size : ℕ) (m : Bool) (r : Row) → items_or_nulls size (named (fixed_lists k size m) r) ≡ map (named k) (items_or_nulls size r)
fixed_items_named k size m null = nulls_named k size
fixed_items_named k size m (boolean b) = nulls_named k size
fixed_items_named k size m (whole z) = nulls_named k size
fixed_items_named k size m (bytes bs) = nulls_named k size
fixed_items_named k size m (text bs) = nulls_named k size
fixed_items_named k size m (items rs) = list_named k rs
fixed_items_named k size m (record_of fs) = nulls_named k size

sized_items_named : (k : Kind) (size : ℕ) (m : Bool) (r : Row) → items_in (named (fixed_lists k size m) r) ≡ map (named k) (items_in r)
sized_items_named k size m null = refl
sized_items_named k size m (boolean b) = refl
sized_items_named k size m (whole z) = refl
sized_items_named k size m (bytes bs) = refl
sized_items_named k size m (text bs) = refl
sized_items_named k size m (items rs) = list_named k rs
sized_items_named k size m (record_of fs) = refl

-- the kinds from place c on
abbrev pub from_field : ℕ → Kinds → Kinds
from_field zero ks = ks
from_field (suc c) no_kinds = no_kinds
from_field (suc c) (kind k ks) = from_field c ks

pub next_field : (c : ℕ) (ks js : Kinds) (j : Kind) → from_field c ks ≡ kind j js → from_field (suc c) ks ≡ js
next_field zero no_kinds js j e = cc
next_field zero (kind k ks) js j e = cc
next_field (suc c) no_kinds js j e = cc
next_field (suc c) (kind k ks) js j e = next_field c ks js j e

fields_at_named : (names : List (List ℕ)) (ks js : Kinds) (j : Kind) (c : ℕ) (fs : Fields) → even_fields names ks ≡ true → from_field c ks ≡ kind j js → field_at c (fields_named names ks fs) ≡ named j (field_at c fs)
fields_at_named [] no_kinds js j zero fs h e = absurd (cc)
fields_at_named [] no_kinds js j (suc c) fs h e = absurd (cc)
fields_at_named [] (kind k ks) js j c fs h e = absurd (cc)
fields_at_named (n ∷ names) no_kinds js j c fs h e = absurd (cc)
fields_at_named (n ∷ names) (kind k ks) js j c no_fields h e = sym (named_null j)
fields_at_named (n ∷ names) (kind k ks) js j zero (field m r fs) h e = let same : k ≡ j = cc in ap (λ x. named x r) same
fields_at_named (n ∷ names) (kind k ks) js j (suc c) (field m r fs) h e = fields_at_named names ks js j c fs (both_true (is_even k) (even_fields names ks) h).1 e

field_named : (names : List (List ℕ)) (ks js : Kinds) (m : Bool) (j : Kind) (c : ℕ) (r : Row) → even_fields names ks ≡ true → from_field c ks ≡ kind j js → field_in c (named (records names ks m) r) ≡ named j (field_in c r)
field_named names ks js m j c null h e = sym (named_null j)
field_named names ks js m j c (boolean b) h e = sym (named_null j)
field_named names ks js m j c (whole z) h e = sym (named_null j)
field_named names ks js m j c (bytes bs) h e = sym (named_null j)
field_named names ks js m j c (text bs) h e = sym (named_null j)
field_named names ks js m j c (items rs) h e = sym (named_null j)
field_named names ks js m j c (record_of fs) h e = fields_at_named names ks js j c fs h e

field_each : (names : List (List ℕ)) (ks js : Kinds) (m : Bool) (j : Kind) (c : ℕ) (rs : List Row) → even_fields names ks ≡ true → from_field c ks ≡ kind j js
    → map (field_in c) (map (named (records names ks m)) rs) ≡ map (named j) (map (field_in c) rs)
field_each names ks js m j c [] h e = refl
field_each names ks js m j c (r ∷ rs) h e = λ i. field_named names ks js m j c r h e i ∷ field_each names ks js m j c rs h e i

long_named : (k : Kind) (rs : List Row) → ((r : Row) → named k r ≡ r) → map (named k) rs ≡ rs
long_named k [] h = refl
long_named k (r ∷ rs) h = λ i. h r i ∷ long_named k rs h i

named_text : (n : Bool) (r : Row) → named (texts n) r ≡ r
named_text n null = refl
named_text n (boolean b) = refl
named_text n (whole z) = refl
named_text n (bytes bs) = refl
named_text n (text bs) = refl
named_text n (items rs) = refl
named_text n (record_of fs) = refl

named_binary : (n : Bool) (r : Row) → named (binaries n) r ≡ r
named_binary n null = refl
named_binary n (boolean b) = refl
named_binary n (whole z) = refl
named_binary n (bytes bs) = refl
named_binary n (text bs) = refl
named_binary n (items rs) = refl
named_binary n (record_of fs) = refl

even_rest : (names : List (List ℕ)) (k : Kind) (ks : Kinds) (c : ℕ) (js : Kinds) (j : Kind) → even_fields names ks ≡ true → from_field c ks ≡ kind j js → is_even j ≡ true
even_rest names k no_kinds zero js j h e = absurd (cc)
even_rest names k no_kinds (suc c) js j h e = absurd (cc)
even_rest [] k (kind i ks) c js j h e = absurd (cc)
even_rest (n ∷ names) k (kind i ks) zero js j h e = let same : i ≡ j = cc in ap is_even (sym same) ∙ (both_true (is_even i) (even_fields names ks) h).0
even_rest (n ∷ names) k (kind i ks) (suc c) js j h e = even_rest names k ks c js j (both_true (is_even i) (even_fields names ks) h).1 e

mutual
  pub rows_fault-named : (k : Kind) (rs : List Row) → is_even k ≡ true → rows_fault k (map (named k) rs) ≡ rows_fault k rs
  rows_fault-named (booleans n) rs h = refl
  rows_fault-named (integers t n) rs h = refl
  rows_fault-named (texts n) rs h = ap (rows_fault (texts n)) (long_named (texts n) rs (named_text n))
  rows_fault-named (binaries n) rs h = ap (rows_fault (binaries n)) (long_named (binaries n) rs (named_binary n))
  rows_fault-named (lists k n) rs h = ap (rows_fault k) (flat_named k (lists k n) items_in (items_named k n) rs) ∙ rows_fault-named k (flat_map items_in rs) h
  rows_fault-named (fixed_lists k size n) rs h =
      let rest = ap (rows_fault k) (flat_named k (fixed_lists k size n) (items_or_nulls size) (fixed_items_named k size n) rs) ∙ rows_fault-named k (flat_map (items_or_nulls size) rs) h in
      λ i. if nat_lt (length-map rs (named (fixed_lists k size n)) i * size) (2 ^ 64) then rest i else Some overflow
  rows_fault-named (records names ks n) rs h = fields_fault-named names ks ks n 0 rs h refl

  fields_fault-named : (names : List (List ℕ)) (ks js : Kinds) (m : Bool) (c : ℕ) (rs : List Row) → even_fields names ks ≡ true → from_field c ks ≡ js → fields_fault js c (map (named (records names ks m)) rs) ≡ fields_fault js c rs
  fields_fault-named names ks no_kinds m c rs h e = refl
  fields_fault-named names ks (kind j js) m c rs h e =
      let here = ap (rows_fault j) (field_each names ks js m j c rs h e) ∙ rows_fault-named j (map (field_in c) rs) (even_rest names j ks c js j h e) in
      λ i. or_else (here i) (fields_fault-named names ks js m (suc c) rs h (next_field c ks js j e) i)

mutual
  pub kept_fault-named : (k : Kind) (rs : List Row) → is_even k ≡ true → kept_fault k (map (named k) rs) ≡ kept_fault k rs
  kept_fault-named (booleans n) rs h = refl
  kept_fault-named (integers t n) rs h = refl
  kept_fault-named (texts n) rs h = ap (kept_fault (texts n)) (long_named (texts n) rs (named_text n))
  kept_fault-named (binaries n) rs h = ap (kept_fault (binaries n)) (long_named (binaries n) rs (named_binary n))
  kept_fault-named (lists k n) rs h = rows_fault-named (lists k n) rs h
  kept_fault-named (fixed_lists k size n) rs h =
      ap (kept_fault k) (flat_named k (fixed_lists k size n) items_in (sized_items_named k size n) rs) ∙ kept_fault-named k (flat_map items_in rs) h
  kept_fault-named (records names ks n) rs h = kept_fields_fault-named names ks ks n 0 rs h refl

  kept_fields_fault-named : (names : List (List ℕ)) (ks js : Kinds) (m : Bool) (c : ℕ) (rs : List Row) → even_fields names ks ≡ true → from_field c ks ≡ js
      → kept_fields_fault js c (map (named (records names ks m)) rs) ≡ kept_fields_fault js c rs
  kept_fields_fault-named names ks no_kinds m c rs h e = refl
  kept_fields_fault-named names ks (kind j js) m c rs h e =
      let here = ap (kept_fault j) (field_each names ks js m j c rs h e) ∙ kept_fault-named j (map (field_in c) rs) (even_rest names j ks c js j h e) in
      λ i. or_else (here i) (kept_fields_fault-named names ks js m (suc c) rs h (next_field c ks js j e) i)

mutual
  pub rows_extent-named : (k : Kind) (rs : List Row) → is_even k ≡ true → rows_extent k (map (named k) rs) ≡ rows_extent k rs
  rows_extent-named (booleans n) rs h = refl
  rows_extent-named (integers t n) rs h = refl
  rows_extent-named (texts n) rs h = ap (rows_extent (texts n)) (long_named (texts n) rs (named_text n))
  rows_extent-named (binaries n) rs h = ap (rows_extent (binaries n)) (long_named (binaries n) rs (named_binary n))
  rows_extent-named (lists k n) rs h =
      ap (λ qs. list_extent (length qs) (rows_extent k qs)) (flat_named k (lists k n) items_in (items_named k n) rs)
      ∙ (λ i. list_extent (length-map (flat_map items_in rs) (named k) i) (rows_extent-named k (flat_map items_in rs) h i))
  rows_extent-named (fixed_lists k size n) rs h =
      ap (λ qs. fixed_list_extent (rows_extent k qs)) (flat_named k (fixed_lists k size n) (items_or_nulls size) (fixed_items_named k size n) rs)
      ∙ ap fixed_list_extent (rows_extent-named k (flat_map (items_or_nulls size) rs) h)
  rows_extent-named (records names ks n) rs h = ap struct_extent (fields_extents-named names ks ks n 0 rs h refl)

  fields_extents-named : (names : List (List ℕ)) (ks js : Kinds) (m : Bool) (c : ℕ) (rs : List Row) → even_fields names ks ≡ true → from_field c ks ≡ js → fields_extents js c (map (named (records names ks m)) rs) ≡ fields_extents js c rs
  fields_extents-named names ks no_kinds m c rs h e = refl
  fields_extents-named names ks (kind j js) m c rs h e =
      let here = ap (rows_extent j) (field_each names ks js m j c rs h e) ∙ rows_extent-named j (map (field_in c) rs) (even_rest names j ks c js j h e) in
      λ i. extent (here i) (fields_extents-named names ks js m (suc c) rs h (next_field c ks js j e) i)

-- whether null may stand makes no difference
pub rows_extent-or_nullable : (b : Bool) (k : Kind) (rs : List Row) → rows_extent (or_nullable b k) rs ≡ rows_extent k rs
rows_extent-or_nullable b (booleans m) rs = refl
rows_extent-or_nullable b (integers t m) rs = refl
rows_extent-or_nullable b (texts m) rs = refl
rows_extent-or_nullable b (binaries m) rs = refl
rows_extent-or_nullable b (lists k m) rs = refl
rows_extent-or_nullable b (fixed_lists k size m) rs = refl
rows_extent-or_nullable b (records names ks m) rs = refl

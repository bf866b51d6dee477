-- Faults that are no other than overflows, so that their order tells nothing.
use Rattle.std.proofs.Common.{ℕ, suc, ◌*◌, ◌^◌, ◌≡◌, ◌⊎◌, Bool, true, false, List, [], ◌∷◌, length, map, Option, Some, None, refl, sym, ap, subst, inl, inr}
use Rattle.std.specs.Prelude.{count_by, nat_lt, if◌then◌else◌}
use Rattle.std.specs.List.{flat_map, sum_by}
use Rattle.vx_base.specs.Booleans.{count_fault}
use Rattle.vx_base.specs.Kinds.{Kind, booleans, integers, texts, binaries, lists, fixed_lists, records, Kinds, no_kinds, kind}
use Rattle.vx_base.specs.Refusals.{Refusal, overflow, or_else}
use Rattle.vx_base.specs.Rows.{Row}
use Rattle.vx_base.proofs.FirstFaults.{or_else-second}
use Rattle.vx_tree.specs.Tree.{Tree, bools, primitive, constant, dictionary, fixed_list, list_view, structure, view_array, Trees, no_trees, tree}
use Rattle.vx_tree.specs.Meaning.{tree_len, kind_of}
use Rattle.vx_tree.specs.RowParts.{is_long_row, items_in, items_or_nulls, field_in}
use Rattle.vx_tree.specs.CanonicalFaults.{buffers_overflow, rows_fault, fields_fault, kept_fault, kept_fields_fault}
use Rattle.vx_tree.specs.CanonicalFaults.{plain_overflow, fields_overflow, canonical_fault, columns_fault}
use Rattle.vx_tree.specs.Extents.{Extent, buffer_count, element_count, elements_extent, column_extent}
use Rattle.vx_canonical.specs.Concatenated.{extents_fault, fields_extents_fault}
use Rattle.vx_canonical.specs.Counted.{rows_overflow, columns_rows_overflow}

-- no fault, or an overflow
abbrev pub IsOverflow : Option Refusal → Type 0
IsOverflow f = (f ≡ None) ⊎ (f ≡ Some overflow)

either : (a b : Option Refusal) → IsOverflow a → IsOverflow b → IsOverflow (or_else a b)
either a b (inl none) h = subst (λ f. IsOverflow (or_else f b)) (sym none) h
either a b (inr some) h = subst (λ f. IsOverflow (or_else f b)) (sym some) (inr refl)

unless : (b : Bool) (f : Option Refusal) → IsOverflow f → IsOverflow (if b then f else Some overflow)
unless true f h = h
unless false f h = inr refl

where_true : (b : Bool) (f : Option Refusal) → IsOverflow f → IsOverflow (if b then f else None)
where_true true f h = h
where_true false f h = inl refl

counted : (n : ℕ) → IsOverflow (count_fault n)
counted n = unless (nat_lt n (2 ^ 64)) None (inl refl)

numbered : (n : ℕ) → IsOverflow (buffers_overflow n)
numbered n = where_true (nat_lt (2 ^ 32) n) (Some overflow) (inr refl)

-- ---- making arrays plain

mutual
  pub rows_only : (k : Kind) (n : ℕ) → IsOverflow (plain_overflow k n)
  rows_only (booleans m) n = inl refl
  rows_only (integers t m) n = inl refl
  rows_only (texts m) n = inl refl
  rows_only (binaries m) n = inl refl
  rows_only (lists k m) n = inl refl
  rows_only (fixed_lists k size m) n = unless (nat_lt (n * size) (2 ^ 64)) (plain_overflow k (n * size)) (rows_only k (n * size))
  rows_only (records names ks m) n = fields_only ks n

  pub fields_only : (ks : Kinds) (n : ℕ) → IsOverflow (fields_overflow ks n)
  fields_only no_kinds n = inl refl
  fields_only (kind k ks) n = either (plain_overflow k n) (fields_overflow ks n) (rows_only k n) (fields_only ks n)

mutual
  values_only : (k : Kind) (rs : List Row) → IsOverflow (rows_fault k rs)
  values_only (booleans m) rs = inl refl
  values_only (integers t m) rs = inl refl
  values_only (texts m) rs = numbered (count_by is_long_row rs)
  values_only (binaries m) rs = numbered (count_by is_long_row rs)
  values_only (lists k m) rs = values_only k (flat_map items_in rs)
  values_only (fixed_lists k size m) rs =
      unless (nat_lt (length rs * size) (2 ^ 64)) (rows_fault k (flat_map (items_or_nulls size) rs)) (values_only k (flat_map (items_or_nulls size) rs))
  values_only (records names ks m) rs = field_values_only ks 0 rs

  field_values_only : (ks : Kinds) (c : ℕ) (rs : List Row) → IsOverflow (fields_fault ks c rs)
  field_values_only no_kinds c rs = inl refl
  field_values_only (kind k ks) c rs = either (rows_fault k (map (field_in c) rs)) (fields_fault ks (suc c) rs) (values_only k (map (field_in c) rs)) (field_values_only ks (suc c) rs)

mutual
  pub kept_only : (k : Kind) (rs : List Row) → IsOverflow (kept_fault k rs)
  kept_only (booleans m) rs = inl refl
  kept_only (integers t m) rs = inl refl
  kept_only (texts m) rs = numbered (count_by is_long_row rs)
  kept_only (binaries m) rs = numbered (count_by is_long_row rs)
  kept_only (lists k m) rs = values_only k (flat_map items_in rs)
  kept_only (fixed_lists k size m) rs = kept_only k (flat_map items_in rs)
  kept_only (records names ks m) rs = kept_fields_only ks 0 rs

  kept_fields_only : (ks : Kinds) (c : ℕ) (rs : List Row) → IsOverflow (kept_fields_fault ks c rs)
  kept_fields_only no_kinds c rs = inl refl
  kept_fields_only (kind k ks) c rs = either (kept_fault k (map (field_in c) rs)) (kept_fields_fault ks (suc c) rs) (kept_only k (map (field_in c) rs)) (kept_fields_only ks (suc c) rs)

mutual
  pub plain_only : (t : Tree) → IsOverflow (canonical_fault t)
  plain_only (bools b bits v) = inl refl
  plain_only (primitive q bs v) = inl refl
  plain_only (constant k r n) = either (plain_overflow k n) (kept_fault k (r ∷ [])) (rows_only k n) (kept_only k (r ∷ []))
  plain_only (dictionary c v f) = either (canonical_fault v) (plain_overflow (kind_of v) (tree_len c)) (plain_only v) (rows_only (kind_of v) (tree_len c))
  plain_only (fixed_list e k v n) = plain_only e
  plain_only (list_view e o s v f) =
      either (canonical_fault e) (or_else (canonical_fault o) (canonical_fault s)) (plain_only e) (either (canonical_fault o) (canonical_fault s) (plain_only o) (plain_only s))
  plain_only (structure ns ts v n) = columns_only ts
  plain_only (view_array vs bs k v) = inl refl

  pub columns_only : (ts : Trees) → IsOverflow (columns_fault ts)
  columns_only no_trees = inl refl
  columns_only (tree t ts) = either (canonical_fault t) (columns_fault ts) (plain_only t) (columns_only ts)

-- ---- joining them

mutual
  pub extents_only : (k : Kind) (n : ℕ) (xs : List Extent) → IsOverflow (extents_fault k n xs)
  extents_only (booleans m) n xs = inl refl
  extents_only (integers t m) n xs = inl refl
  extents_only (texts m) n xs = numbered (sum_by buffer_count xs)
  extents_only (binaries m) n xs = numbered (sum_by buffer_count xs)
  extents_only (lists k m) n xs =
      let many = sum_by element_count xs in
      either (count_fault many) (extents_fault k many (map elements_extent xs)) (counted many) (extents_only k many (map elements_extent xs))
  extents_only (fixed_lists k size m) n xs =
      either (count_fault (n * size)) (extents_fault k (n * size) (map elements_extent xs)) (counted (n * size)) (extents_only k (n * size) (map elements_extent xs))
  extents_only (records names ks m) n xs = fields_extents_only ks 0 n xs

  fields_extents_only : (ks : Kinds) (c n : ℕ) (xs : List Extent) → IsOverflow (fields_extents_fault ks c n xs)
  fields_extents_only no_kinds c n xs = inl refl
  fields_extents_only (kind k ks) c n xs =
      either (extents_fault k n (map (column_extent c) xs)) (fields_extents_fault ks (suc c) n xs) (extents_only k n (map (column_extent c) xs)) (fields_extents_only ks (suc c) n xs)

-- ---- one of several

-- an overflow after what is none other
pub or_later : (a b : Option Refusal) → IsOverflow a → b ≡ Some overflow → or_else a b ≡ Some overflow
or_later a b (inl none) h = or_else-second a b (Some overflow) none h
or_later a b (inr some) h = ap (λ f. or_else f b) some

-- where a or b is, c or d is
first_or_later : (a b c d : Option Refusal) → IsOverflow c → or_else a b ≡ Some overflow → (a ≡ Some overflow → c ≡ Some overflow) → (b ≡ Some overflow → d ≡ Some overflow) → or_else c d ≡ Some overflow
first_or_later None b c d only h first later = or_later c d only (later h)
first_or_later (Some r) b c d only h first later = ap (λ f. or_else f d) (first h)

-- constants and dictionaries of more rows than can be counted
mutual
  pub rows_refused : (t : Tree) → rows_overflow t ≡ Some overflow → canonical_fault t ≡ Some overflow
  rows_refused (bools b bits v) h = cc
  rows_refused (primitive q bs v) h = cc
  rows_refused (constant k r n) h = ap (λ f. or_else f (kept_fault k (r ∷ []))) h
  rows_refused (dictionary c v f) h =
      let many = plain_overflow (kind_of v) (tree_len c) in
      first_or_later (rows_overflow v) many (canonical_fault v) many (plain_only v) h (rows_refused v) (λ e. e)
  rows_refused (fixed_list e k v n) h = rows_refused e h
  rows_refused (list_view e o s v f) h = ap (λ x. or_else x (or_else (canonical_fault o) (canonical_fault s))) (rows_refused e h)
  rows_refused (structure ns ts v n) h = columns_rows_refused ts h
  rows_refused (view_array vs bs k v) h = cc

  pub columns_rows_refused : (ts : Trees) → columns_rows_overflow ts ≡ Some overflow → columns_fault ts ≡ Some overflow
  columns_rows_refused no_trees h = cc
  columns_rows_refused (tree t ts) h =
      first_or_later (rows_overflow t) (columns_rows_overflow ts) (canonical_fault t) (columns_fault ts) (plain_only t) h (rows_refused t) (columns_rows_refused ts)

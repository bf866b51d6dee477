-- Elements and buffers that are counted where they stand.
use Rattle.std.proofs.Common.{ℕ, zero, suc, ◌+◌, ◌^◌, ◌<◌, ◌≤◌, ◌≡◌, true, List, [], ◌∷◌, length, map, get_or, drop, Option, Some, None, refl, sym, ◌∙◌, ap, subst, inl, inr, arith}
use Rattle.std.specs.List.{flat_map, sum_by}
use Rattle.std.proofs.lemmas.Bool.Decides.{nat_tests}
use Rattle.std.proofs.lemmas.List.{at_drop_more}
use Rattle.std.proofs.lemmas.List.Sums.{sum_by-cons}
use Rattle.vx_base.specs.Booleans.{count_fault}
use Rattle.vx_base.specs.Defaults.{is_even}
use Rattle.vx_base.specs.DTypes.{dtype_meaning, kinds_of as dtype_kinds}
use Rattle.vx_base.specs.declared.dtypes.DType.{DType}
use Rattle.vx_base.specs.declared.errors.VortexError.{VortexError}
use Rattle.vx_base.specs.declared.scalar_value.ScalarValue.{ScalarValue}
use Rattle.vx_base.specs.Kinds.{Kind, booleans, integers, texts, binaries, lists, fixed_lists, records}
use Rattle.vx_base.specs.Refusals.{Refusal, IsMemoryOr, Names, or_else}
use Rattle.vx_base.proofs.StructKinds.{from_place}
use Rattle.vx_base.specs.Rows.{Row}
use Rattle.vx_base.specs.ValueRows.{option_row, row_under}
use Rattle.vx_tree.specs.Extents.{Extent, leaf_extent, rows_extent, fields_extents, extent_of, extents_of, extent_at, column_extent}
use Rattle.vx_tree.specs.Meaning.{trees_from}
use Rattle.vx_tree.specs.RowParts.{field_in, items_in, items_or_nulls}
use Rattle.vx_tree.specs.Tree.{Tree}
use Rattle.vx_tree.proofs.Dictionaries.{memory_only}
use Rattle.vx_canonical.specs.Concatenated.{extents_fault, fields_extents_fault}
use Rattle.vx_canonical.specs.Counted.{is_leaf, rows_overflow, columns_rows_overflow}
use Rattle.vx_canonical.proofs.Kept.{rows_extent-there, sized_there}
use Rattle.vx_canonical.proofs.RowNames.{rows_extent-named}

-- ---- counts

pub within_count : (n : ℕ) → count_fault n ≡ None → n < 2 ^ 64
within_count n h = grind (arith, nat_tests)

-- what is too many alone is too many with more
pub count_refused : (m n : ℕ) (e : VortexError) → m ≤ n → Names (count_fault m) e → Names (count_fault n) e
count_refused m n e l h = grind (arith, nat_tests)

-- a sum, one step on
pub sum_step : {A B : Type 0} (f : B → ℕ) (g : A → B) (xs : List A) (i : ℕ) (x : A) → i < length xs → x ≡ get_or xs i x → sum_by f (map g (drop i xs)) ≡ f (g x) + sum_by f (map g (drop (i + 1) xs))
sum_step f g xs i x inside same =
    at_drop_more (λ ys. sum_by f (map g ys)) xs i x inside ∙ ap (λ y. sum_by f (map g (y ∷ drop (i + 1) xs))) (sym same) ∙ sum_by-cons f (g x) (map g (drop (i + 1) xs))

-- ---- rows

-- one row, under its names
pub row_extent : (k : Kind) (v : Option ScalarValue) (r : Row) → row_under k v ≡ r → is_even k ≡ true → rows_extent k (map option_row (v ∷ [])) ≡ rows_extent k (r ∷ [])
row_extent k v r e even = sym (rows_extent-named k (option_row v ∷ []) even) ∙ ap (λ q. rows_extent k (q ∷ [])) e

-- rows of null in a list of a size have neither elements nor buffers
pub sized_extent : (k : Kind) (size : ℕ) (rs : List Row) → rows_extent k (flat_map items_in rs) ≡ rows_extent k (flat_map (items_or_nulls size) rs)
sized_extent k size rs = rows_extent-there k (flat_map items_in rs) ∙ ap (rows_extent k) (sym (sized_there size rs)) ∙ sym (rows_extent-there k (flat_map (items_or_nulls size) rs))

-- ---- columns by their places

pub column_there : (ts : List Tree) (c : ℕ) (t : Tree) → c < length ts → t ≡ get_or ts c t → extent_of t ≡ extent_at c (extents_of (trees_from ts))
column_there [] c t l e = absurd (omega arith)
column_there (u ∷ ts) zero t l e = ap extent_of e
column_there (u ∷ ts) (suc c) t l e = column_there ts c t (omega arith) e

pub column_absent : (ts : List Tree) (c : ℕ) → length ts ≤ c → leaf_extent ≡ extent_at c (extents_of (trees_from ts))
column_absent [] c l = refl
column_absent (u ∷ ts) zero l = absurd (omega arith)
column_absent (u ∷ ts) (suc c) l = column_absent ts c (omega arith)

pub field_extent : (ds : List DType) (c i m : ℕ) (d : DType) (rs : List Row) → m ≡ i + c → i < length ds → d ≡ get_or ds i d → rows_extent (dtype_meaning d) (map (field_in m) rs) ≡ extent_at i (fields_extents (dtype_kinds ds) c rs)
field_extent [] c i m d rs s l e = absurd (omega arith)
field_extent (x ∷ ds) c zero m d rs s l e = let same : m ≡ c = omega (arith, s) in λ j. rows_extent (dtype_meaning (e j)) (map (field_in (same j)) rs)
field_extent (x ∷ ds) c (suc i) m d rs s l e = field_extent ds (suc c) i m d rs (omega (arith, s)) (omega arith) e

pub field_absent : (ds : List DType) (c i : ℕ) (rs : List Row) → length ds ≤ i → leaf_extent ≡ extent_at i (fields_extents (dtype_kinds ds) c rs)
field_absent [] c i rs l = refl
field_absent (x ∷ ds) c zero rs l = absurd (omega arith)
field_absent (x ∷ ds) c (suc i) rs l = field_absent ds (suc c) i rs (omega arith)

-- ---- the fault

pub leaf_fits : (k : Kind) (n : ℕ) (xs : List Extent) → is_leaf k ≡ true → extents_fault k n xs ≡ None
leaf_fits (booleans m) n xs h = refl
leaf_fits (integers t m) n xs h = refl
leaf_fits (texts m) n xs h = cc
leaf_fits (binaries m) n xs h = cc
leaf_fits (lists k m) n xs h = cc
leaf_fits (fixed_lists k size m) n xs h = cc
leaf_fits (records names ks m) n xs h = cc

-- a fault that is told comes first
told_first : (a b : Option Refusal) (e : VortexError) → IsMemoryOr a e → IsMemoryOr (or_else a b) e
told_first a b e (inl memory) = inl memory
told_first None b e (inr same) = inl (memory_only None e refl (inr same))
told_first (Some r) b e (inr same) = inr same

-- the columns from a place on are that of the place, then those from the next on
columns_from : (ds : List DType) (i : ℕ) (d : DType) (n : ℕ) (xs : List Extent) → i < length ds → d ≡ get_or ds i d
    → fields_extents_fault (dtype_kinds (drop i ds)) i n xs ≡ or_else (extents_fault (dtype_meaning d) n (map (column_extent i) xs)) (fields_extents_fault (dtype_kinds (drop (i + 1) ds)) (i + 1) n xs)
columns_from ds i d n xs inside here =
    ap (λ (es : List DType). fields_extents_fault (dtype_kinds es) i n xs) (from_place ds i d inside here)
    ∙ ap (λ c. or_else (extents_fault (dtype_meaning d) n (map (column_extent i) xs)) (fields_extents_fault (dtype_kinds (drop (i + 1) ds)) c n xs)) {x = suc i} {y = i + 1} (omega arith)

pub columns_next : (ds : List DType) (i : ℕ) (d : DType) (n : ℕ) (xs : List Extent) (all : Option Refusal) → fields_extents_fault (dtype_kinds (drop i ds)) i n xs ≡ all → i < length ds → d ≡ get_or ds i d
    → extents_fault (dtype_meaning d) n (map (column_extent i) xs) ≡ None → fields_extents_fault (dtype_kinds (drop (i + 1) ds)) (i + 1) n xs ≡ all
columns_next ds i d n xs all h inside here none =
    sym (columns_from ds i d n xs inside here ∙ ap (λ f. or_else f (fields_extents_fault (dtype_kinds (drop (i + 1) ds)) (i + 1) n xs)) none) ∙ h

pub columns_refuse : (ds : List DType) (i : ℕ) (d : DType) (n : ℕ) (xs : List Extent) (all : Option Refusal) (e : VortexError) → fields_extents_fault (dtype_kinds (drop i ds)) i n xs ≡ all → i < length ds → d ≡ get_or ds i d
    → IsMemoryOr (extents_fault (dtype_meaning d) n (map (column_extent i) xs)) e → IsMemoryOr all e
columns_refuse ds i d n xs all e h inside here fault =
    subst (λ f. IsMemoryOr f e) (sym (columns_from ds i d n xs inside here) ∙ h)
    (told_first (extents_fault (dtype_meaning d) n (map (column_extent i) xs)) (fields_extents_fault (dtype_kinds (drop (i + 1) ds)) (i + 1) n xs) e fault)

-- ---- the rows of constants and dictionaries

pub rows_from : (ts : List Tree) (i : ℕ) (t : Tree) → i < length ts → t ≡ get_or ts i t
    → columns_rows_overflow (trees_from (drop i ts)) ≡ or_else (rows_overflow t) (columns_rows_overflow (trees_from (drop (i + 1) ts)))
rows_from ts i t inside same =
    at_drop_more (λ us. columns_rows_overflow (trees_from us)) ts i t inside ∙ ap (λ u. or_else (rows_overflow u) (columns_rows_overflow (trees_from (drop (i + 1) ts)))) (sym same)

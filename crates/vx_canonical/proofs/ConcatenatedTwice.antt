-- What came of arrays, concatenated with others.
use Rattle.std.proofs.Common.{ℕ, suc, ◌+◌, ◌*◌, ◌≡◌, Bool, true, List, [], ◌∷◌, ◌++◌, length, map, get_or, Option, Some, None, refl, sym, ◌∙◌, ap, zero-add, arith}
use Rattle.std.specs.Prelude.{◌&&◌, if◌then◌else◌}
use Rattle.std.specs.List.{All, sum_by}
use Rattle.std.proofs.lemmas.List.{map-append}
use Rattle.std.proofs.lemmas.List.Sums.{sum_by-cons, sum_by-append}
use Rattle.vx_base.specs.Booleans.{count_fault}
use Rattle.vx_base.specs.Kinds.{Kind, booleans, integers, texts, binaries, lists, fixed_lists, records, Kinds, no_kinds, kind}
use Rattle.vx_base.specs.Refusals.{Refusal, differing_dtypes, or_else}
use Rattle.vx_base.specs.SameKind.{kind_eq, kind_eq-Decides}
use Rattle.vx_tree.specs.Tree.{Tree}
use Rattle.vx_tree.specs.Meaning.{tree_len, kind_of, rows, trees_from}
use Rattle.vx_tree.specs.CanonicalFaults.{canonical_fault, columns_fault}
use Rattle.vx_tree.specs.CanonicalFaults.{buffers_overflow}
use Rattle.vx_tree.specs.Extents.{Extent, Extents, extent, view_extent, list_extent, fixed_list_extent, struct_extent, extent_of, buffer_count, element_count, elements_extent, extent_at, column_extent, joined_extent, joined_extents}
use Rattle.vx_canonical.specs.Joined.{joined_len}
use Rattle.vx_canonical.specs.Concatenated.{are_alike, extents_fault, fields_extents_fault, plain_fault, concat_fault}
use Rattle.vx_canonical.specs.Composed.{ExtentsCompose, ConcatsCompose}
use Rattle.vx_tree.proofs.RowLists.{length-rows}
use Rattle.vx_canonical.proofs.JoinedRows.{length-joined}
use Rattle.vx_canonical.proofs.JoinedNumbers.{joined_len-append}
use Rattle.vx_canonical.proofs.CanonicalArrays.{or_none}
use Rattle.vx_canonical.proofs.PlainTests.{no_fault}

-- ---- extents

-- a sum in place of what it is of
sum_joined : (f : Extent → ℕ) (x : Extent) (xs ys : List Extent) → f x ≡ sum_by f xs → sum_by f (x ∷ ys) ≡ sum_by f (xs ++ ys)
sum_joined f x xs ys e = sum_by-cons f x ys ∙ ap (λ n. n + sum_by f ys) e ∙ sym (sum_by-append f xs ys)

mutual
  pub extents_compose : ExtentsCompose
  extents_compose (booleans m) xs ys = refl
  extents_compose (integers t m) xs ys = refl
  extents_compose (texts m) xs ys = ap view_extent (sum_joined buffer_count (joined_extent (texts m) xs) xs ys refl)
  extents_compose (binaries m) xs ys = ap view_extent (sum_joined buffer_count (joined_extent (binaries m) xs) xs ys refl)
  extents_compose (lists k m) xs ys =
      let many = sum_joined element_count (joined_extent (lists k m) xs) xs ys refl in
      let parts = extents_compose k (map elements_extent xs) (map elements_extent ys) ∙ ap (joined_extent k) (sym (map-append elements_extent xs ys)) in
      λ i. list_extent (many i) (parts i)
  extents_compose (fixed_lists k size m) xs ys =
      ap fixed_list_extent (extents_compose k (map elements_extent xs) (map elements_extent ys) ∙ ap (joined_extent k) (sym (map-append elements_extent xs ys)))
  extents_compose (records names ks m) xs ys = ap struct_extent (fields_compose ks 0 (joined_extents ks 0 xs) xs ys (λ i. ap (λ j. extent_at j (joined_extents ks 0 xs)) (zero-add i)))

  -- the columns of es from place c on are those of xs, joined
  fields_compose : (ks : Kinds) (c : ℕ) (es : Extents) (xs ys : List Extent) → ((i : ℕ) → extent_at (c + i) es ≡ extent_at i (joined_extents ks c xs))
      → joined_extents ks c (struct_extent es ∷ ys) ≡ joined_extents ks c (xs ++ ys)
  fields_compose no_kinds c es xs ys h = refl
  fields_compose (kind k ks) c es xs ys h =
      let here = ap (λ j. extent_at j es) {x = c} {y = c + 0} (omega arith) ∙ h 0 in
      let first : joined_extent k (extent_at c es ∷ map (column_extent c) ys) ≡ joined_extent k (map (column_extent c) (xs ++ ys)) =
      ap (λ x. joined_extent k (x ∷ map (column_extent c) ys)) here ∙ extents_compose k (map (column_extent c) xs) (map (column_extent c) ys)
      ∙ ap (joined_extent k) (sym (map-append (column_extent c) xs ys)) in
      let rest = fields_compose ks (suc c) es xs ys (λ i. ap (λ j. extent_at j es) {x = suc c + i} {y = c + suc i} (omega arith) ∙ h (suc i)) in
      λ i. extent (first i) (rest i)

mutual
  pub faults_compose : (k : Kind) (n : ℕ) (xs ys : List Extent) → extents_fault k n (joined_extent k xs ∷ ys) ≡ extents_fault k n (xs ++ ys)
  faults_compose (booleans m) n xs ys = refl
  faults_compose (integers t m) n xs ys = refl
  faults_compose (texts m) n xs ys = ap buffers_overflow (sum_joined buffer_count (joined_extent (texts m) xs) xs ys refl)
  faults_compose (binaries m) n xs ys = ap buffers_overflow (sum_joined buffer_count (joined_extent (binaries m) xs) xs ys refl)
  faults_compose (lists k m) n xs ys =
      let x = joined_extent (lists k m) xs in
      let many = sum_joined element_count x xs ys refl in
      let parts : (c : ℕ) → extents_fault k c (map elements_extent (x ∷ ys)) ≡ extents_fault k c (map elements_extent (xs ++ ys)) =
      λ c. faults_compose k c (map elements_extent xs) (map elements_extent ys) ∙ ap (extents_fault k c) (sym (map-append elements_extent xs ys)) in
      (λ i. or_else (count_fault (many i)) (extents_fault k (many i) (map elements_extent (x ∷ ys))))
      ∙ ap (or_else (count_fault (sum_by element_count (xs ++ ys)))) (parts (sum_by element_count (xs ++ ys)))
  faults_compose (fixed_lists k size m) n xs ys =
      ap (or_else (count_fault (n * size)))
      (faults_compose k (n * size) (map elements_extent xs) (map elements_extent ys) ∙ ap (extents_fault k (n * size)) (sym (map-append elements_extent xs ys)))
  faults_compose (records names ks m) n xs ys = fields_faults_compose ks 0 n (joined_extents ks 0 xs) xs ys (λ i. ap (λ j. extent_at j (joined_extents ks 0 xs)) (zero-add i))

  fields_faults_compose : (ks : Kinds) (c n : ℕ) (es : Extents) (xs ys : List Extent) → ((i : ℕ) → extent_at (c + i) es ≡ extent_at i (joined_extents ks c xs))
      → fields_extents_fault ks c n (struct_extent es ∷ ys) ≡ fields_extents_fault ks c n (xs ++ ys)
  fields_faults_compose no_kinds c n es xs ys h = refl
  fields_faults_compose (kind k ks) c n es xs ys h =
      let here = ap (λ j. extent_at j es) {x = c} {y = c + 0} (omega arith) ∙ h 0 in
      let first : extents_fault k n (extent_at c es ∷ map (column_extent c) ys) ≡ extents_fault k n (map (column_extent c) (xs ++ ys)) =
      ap (λ x. extents_fault k n (x ∷ map (column_extent c) ys)) here ∙ faults_compose k n (map (column_extent c) xs) (map (column_extent c) ys)
      ∙ ap (extents_fault k n) (sym (map-append (column_extent c) xs ys)) in
      let rest = fields_faults_compose ks (suc c) n es xs ys (λ i. ap (λ j. extent_at j es) {x = suc c + i} {y = c + suc i} (omega arith) ∙ h (suc i)) in
      λ i. or_else (first i) (rest i)

-- ---- what is given

kind_itself : (k : Kind) → kind_eq k k ≡ true
kind_itself k = (kind_eq-Decides k k).1 refl

alike-append : (k : Kind) (ts us : List Tree) → All (λ t. kind_of t ≡ k) ts → are_alike k (ts ++ us) ≡ are_alike k us
alike-append k [] us h = refl
alike-append k (t ∷ ts) us h =
    let here : kind_eq (kind_of t) k ≡ true = ap (λ j. kind_eq j k) (h 0 t (omega arith)) ∙ kind_itself k in
    ap (λ b. b && are_alike k (ts ++ us)) here ∙ alike-append k ts us (λ i d l. h (suc i) d (omega arith))

columns_fault-append : (ts us : List Tree) → columns_fault (trees_from ts) ≡ None → columns_fault (trees_from (ts ++ us)) ≡ columns_fault (trees_from us)
columns_fault-append [] us h = refl
columns_fault-append (t ∷ ts) us h =
    let both = or_none (canonical_fault t) (columns_fault (trees_from ts)) h in
    ap (λ f. or_else f (columns_fault (trees_from (ts ++ us)))) both.0 ∙ columns_fault-append ts us both.1

-- the parts of a fault that does not stand
no_columns_fault : (k : Kind) (ts : List Tree) (b : Bool) (more : Option Refusal)
    → or_else (or_else (if b then None else Some differing_dtypes) (or_else (count_fault (joined_len ts)) (columns_fault (trees_from ts)))) more ≡ None → columns_fault (trees_from ts) ≡ None
no_columns_fault k ts b more h =
    let given = or_none (or_else (if b then None else Some differing_dtypes) (or_else (count_fault (joined_len ts)) (columns_fault (trees_from ts)))) more h in
    let rest = or_none (if b then None else Some differing_dtypes) (or_else (count_fault (joined_len ts)) (columns_fault (trees_from ts))) given.0 in
    (or_none (count_fault (joined_len ts)) (columns_fault (trees_from ts)) rest.1).1

-- ---- the fault

-- the fault of arrays of a kind
fault_of : Kind → Bool → ℕ → Option Refusal → List Extent → Option Refusal
fault_of k alike n columns xs = or_else (or_else (if alike then None else Some differing_dtypes) (or_else (count_fault n) columns)) (extents_fault k n xs)

pub concats_compose : ConcatsCompose
unfolding fault_of
concats_compose [] us r none h = cc
concats_compose (t ∷ ts) us r none h =
    let all = t ∷ ts in
    let k = kind_of r in
    let first : kind_of t ≡ k = h.kind 0 t (omega arith) in
    let alike : are_alike k (r ∷ us) ≡ are_alike k (all ++ us) = ap (λ b. b && are_alike k us) (kind_itself k) ∙ sym (alike-append k all us h.kind) in
    let long : tree_len r ≡ joined_len all = sym (length-rows r) ∙ ap length h.same_rows ∙ length-joined rows all (λ i d l. length-rows (get_or all i d)) in
    let len : joined_len (r ∷ us) ≡ joined_len (all ++ us) = ap (λ n. n + joined_len us) long ∙ sym (joined_len-append all us) in
    let columns : columns_fault (trees_from (r ∷ us)) ≡ columns_fault (trees_from (all ++ us)) =
    ap (λ f. or_else f (columns_fault (trees_from us))) (no_fault r h.plain)
    ∙ sym (columns_fault-append all us (no_columns_fault (kind_of t) all (are_alike (kind_of t) all) (plain_fault all) none)) in
    let extents : extents_fault k (joined_len (all ++ us)) (map extent_of (r ∷ us)) ≡ extents_fault k (joined_len (all ++ us)) (map extent_of (all ++ us)) =
    ap (λ x. extents_fault k (joined_len (all ++ us)) (x ∷ map extent_of us)) h.extent ∙ faults_compose k (joined_len (all ++ us)) (map extent_of all) (map extent_of us)
    ∙ ap (extents_fault k (joined_len (all ++ us))) (sym (map-append extent_of all us)) in
    let given : concat_fault (r ∷ us) ≡ fault_of k (are_alike k (all ++ us)) (joined_len (all ++ us)) (columns_fault (trees_from (all ++ us))) (map extent_of (r ∷ us)) =
    λ i. fault_of k (alike i) (len i) (columns i) (map extent_of (r ∷ us)) in
    given
    ∙ ap (or_else (or_else (if are_alike k (all ++ us) then None else Some differing_dtypes) (or_else (count_fault (joined_len (all ++ us))) (columns_fault (trees_from (all ++ us)))))) extents
    ∙ ap (λ j. fault_of j (are_alike j (all ++ us)) (joined_len (all ++ us)) (columns_fault (trees_from (all ++ us))) (map extent_of (all ++ us))) (sym first)

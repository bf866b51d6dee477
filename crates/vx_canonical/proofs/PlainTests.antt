-- An array that is plain already is the plain layout of itself, and has no fault.
use Rattle.std.proofs.Common.{ℕ, zero, suc, ◌+◌, ◌<◌, ◌≤◌, ◌≡◌, ◌++◌, Bool, true, false, List, [], ◌∷◌, length, take, get_or, None, refl, arith}
use Rattle.std.specs.Prelude.{◌&&◌, Result, IfOk}
use Rattle.std.proofs.lemmas.List.{take_more, take_all}
use Rattle.vx_base.specs.declared.errors.VortexError.{VortexError}
use Rattle.vx_tree.specs.Tree.{Tree, bools, primitive, constant, dictionary, fixed_list, list_view, structure, view_array, Trees, no_trees, tree, Valid, non_nullable, all_valid, all_invalid, by_array}
use Rattle.vx_tree.specs.Meaning.{trees_from}
use Rattle.vx_tree.specs.Plain.{IsPlain, ArePlain, IsPlainValid}
use Rattle.vx_canonical.specs.PlainTests.{is_plain, are_plain, is_plain_valid}
use Rattle.vx_canonical.specs.Canonical.{HasRowsOf, IsCanonical, IsCanonicalWithin}
use Rattle.vx_tree.specs.CanonicalFaults.{canonical_fault, columns_fault}
use Rattle.vx_canonical.proofs.CanonicalArrays.{rows_canonical}
use Rattle.vx_canonical.proofs.CanonicalWithin.{within_itself}

both_true : (a b : Bool) → (a && b) ≡ true → (a ≡ true) × (b ≡ true)
both_true true b h = (refl, h)
both_true false b h = cc

mutual
  pub plain_told : (t : Tree) → is_plain t ≡ true → IsPlain t
  plain_told (bools b bits v) h = plain_valid_told v h
  plain_told (primitive t bs v) h = plain_valid_told v h
  plain_told (constant k r n) h = cc
  plain_told (dictionary c v f) h = cc
  plain_told (fixed_list e k v n) h =
      let both = both_true (is_plain e) (is_plain_valid v) h in
      (plain_told e both.0, plain_valid_told v both.1)
  plain_told (list_view e o s v f) h =
      let first = both_true (is_plain e) (is_plain o && (is_plain s && is_plain_valid v)) h in
      let second = both_true (is_plain o) (is_plain s && is_plain_valid v) first.1 in
      let third = both_true (is_plain s) (is_plain_valid v) second.1 in
      (plain_told e first.0, plain_told o second.0, plain_told s third.0, plain_valid_told v third.1)
  plain_told (structure ns ts v n) h =
      let both = both_true (are_plain ts) (is_plain_valid v) h in
      (all_plain_told ts both.0, plain_valid_told v both.1)
  plain_told (view_array vs bs k v) h = plain_valid_told v h

  all_plain_told : (ts : Trees) → are_plain ts ≡ true → ArePlain ts
  all_plain_told no_trees h = tt
  all_plain_told (tree t ts) h =
      let both = both_true (is_plain t) (are_plain ts) h in
      (plain_told t both.0, all_plain_told ts both.1)

  plain_valid_told : (v : Valid) → is_plain_valid v ≡ true → IsPlainValid v
  plain_valid_told non_nullable h = tt
  plain_valid_told all_valid h = tt
  plain_valid_told all_invalid h = tt
  plain_valid_told (by_array t) h = plain_told t h

-- ---- the plain layout of itself

rows_same : (t : Tree) → HasRowsOf t t
rows_same t = record { len = refl; kind = refl; rows = λ i l. refl }

itself : (t : Tree) → IsPlain t → IsCanonical t t
itself (bools b bits v) h = record { same = rows_same (bools b bits v); plain = h; state = refl; extent = refl; flag = refl; kept = tt }
itself (primitive t bs v) h = record { same = rows_same (primitive t bs v); plain = h; state = refl; extent = refl; flag = refl; kept = tt }
itself (constant k r n) h = absurd h
itself (dictionary c v f) h = absurd h
itself (fixed_list e k v n) h = record { same = rows_same (fixed_list e k v n); plain = h; state = refl; extent = refl; flag = refl; kept = tt }
itself (list_view e o s v f) h =
    record { same = rows_same (list_view e o s v f); plain = h; state = refl; extent = refl; flag = refl; kept = (rows_same e, rows_same o, rows_same s) }
itself (structure ns ts v n) h = record { same = rows_same (structure ns ts v n); plain = h; state = refl; extent = refl; flag = refl; kept = tt }
itself (view_array vs bs k v) h = record { same = rows_same (view_array vs bs k v); plain = h; state = refl; extent = refl; flag = refl; kept = (refl, refl) }

-- and none that is plain is told as another
both_told : (a b : Bool) → a ≡ true → b ≡ true → (a && b) ≡ true
both_told a b first second = rw (first, second) refl

mutual
  plain_tested : (t : Tree) → IsPlain t → is_plain t ≡ true
  plain_tested (bools b bits v) h = plain_valid_tested v h
  plain_tested (primitive t bs v) h = plain_valid_tested v h
  plain_tested (constant k r n) h = absurd h
  plain_tested (dictionary c v f) h = absurd h
  plain_tested (fixed_list e k v n) h = both_told (is_plain e) (is_plain_valid v) (plain_tested e h.0) (plain_valid_tested v h.1)
  plain_tested (list_view e o s v f) h =
      both_told (is_plain e) (is_plain o && (is_plain s && is_plain_valid v)) (plain_tested e h.0)
      (both_told (is_plain o) (is_plain s && is_plain_valid v) (plain_tested o h.1)
      (both_told (is_plain s) (is_plain_valid v) (plain_tested s h.2) (plain_valid_tested v h.3)))
  plain_tested (structure ns ts v n) h = both_told (are_plain ts) (is_plain_valid v) (all_plain_tested ts h.0) (plain_valid_tested v h.1)
  plain_tested (view_array vs bs k v) h = plain_valid_tested v h

  all_plain_tested : (ts : Trees) → ArePlain ts → are_plain ts ≡ true
  all_plain_tested no_trees h = refl
  all_plain_tested (tree t ts) h = both_told (is_plain t) (are_plain ts) (plain_tested t h.0) (all_plain_tested ts h.1)

  plain_valid_tested : (v : Valid) → IsPlainValid v → is_plain_valid v ≡ true
  plain_valid_tested non_nullable h = refl
  plain_valid_tested all_valid h = refl
  plain_valid_tested all_invalid h = refl
  plain_valid_tested (by_array t) h = plain_tested t h

pub not_plain : (t : Tree) (made : Result Tree VortexError) → is_plain t ≡ false → IsPlain t → IfOk made (λ a. a ≡ t)
not_plain t made told plain = let tested = plain_tested t plain in absurd (cc)

pub plain_itself : (t a : Tree) → is_plain t ≡ true → a ≡ t → IsCanonical t a
plain_itself t a h e = rw e (itself t (plain_told t h))

pub plain_within : (t a : Tree) → is_plain t ≡ true → a ≡ t → IsCanonicalWithin t a
plain_within t a h e = rw e (within_itself itself t (plain_told t h))

-- ---- no fault

mutual
  pub no_fault : (t : Tree) → IsPlain t → canonical_fault t ≡ None
  no_fault (bools b bits v) h = refl
  no_fault (primitive t bs v) h = refl
  no_fault (constant k r n) h = absurd h
  no_fault (dictionary c v f) h = absurd h
  no_fault (fixed_list e k v n) h = no_fault e h.0
  no_fault (list_view e o s v f) h = rw (no_fault e h.0, no_fault o h.1, no_fault s h.2) refl
  no_fault (structure ns ts v n) h = no_faults ts h.0
  no_fault (view_array vs bs k v) h = refl

  no_faults : (ts : Trees) → ArePlain ts → columns_fault ts ≡ None
  no_faults no_trees h = refl
  no_faults (tree t ts) h = rw (no_fault t h.0, no_faults ts h.1) refl

pub plain_faultless : (t : Tree) → is_plain t ≡ true → canonical_fault t ≡ None
plain_faultless t h = no_fault t (plain_told t h)

pub ruleset plain_tests = (rows_canonical, plain_faultless, not_plain)

-- ---- columns, one after another

pub are_plain-next : (ts : List Tree) (i : ℕ) (t : Tree) → are_plain (trees_from (take i ts)) ≡ true → i < length ts → t ≡ get_or ts i t → is_plain t ≡ true → are_plain (trees_from (take (i + 1) ts)) ≡ true
are_plain-next ts i t h l e here = rw (take_more ts i t l, ← e) (more (take i ts) t h here)
  where
    more : (us : List Tree) (u : Tree) → are_plain (trees_from us) ≡ true → is_plain u ≡ true → are_plain (trees_from (us ++ u ∷ [])) ≡ true
    more [] u h here = rw here refl
    more (w ∷ us) u h here =
        let both = both_true (is_plain w) (are_plain (trees_from us)) h in
        rw both.0 (more us u both.1 here)

pub are_plain-all : (ts : List Tree) (i : ℕ) → are_plain (trees_from (take i ts)) ≡ true → length ts ≤ i → are_plain (trees_from ts) ≡ true
are_plain-all ts i h l = rw (take_all i ts l) at h

-- one that is not plain
pub are_plain-none : (ts : List Tree) (i : ℕ) (t : Tree) → are_plain (trees_from (take i ts)) ≡ true → i < length ts → t ≡ get_or ts i t → is_plain t ≡ false → are_plain (trees_from ts) ≡ false
are_plain-none [] i t h l e here = absurd (omega arith)
are_plain-none (u ∷ ts) zero t h l e here = rw (← e, here) refl
are_plain-none (u ∷ ts) (suc i) t h l e here =
    let both = both_true (is_plain u) (are_plain (trees_from (take i ts))) h in
    rw both.0 (are_plain-none ts i t both.1 (omega arith) e here)

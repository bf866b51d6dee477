-- Masks as runs.
use Rattle.std.proofs.Common.{ℕ, zero, suc, ◌+◌, ◌-◌, ◌<◌, ◌≤◌, ◌≡◌, ◌≢◌, Bool, true, false, cond, List, [], ◌∷◌, ◌++◌, length, get_or, take, drop, map, refl, sym, ◌∙◌, ap, subst, inl, inr, leb, ltb, eqb, set, replicate, ◌*◌, ◌/◌, ◌%◌, arith}
use Rattle.std.specs.Prelude.{◌||◌, ◌&&◌, count_by}
use Rattle.std.specs.List.Sorted.{IsNonDecreasingBy, IsPartitionedBy, IsPartitionPoint}
use Rattle.std.proofs.lemmas.List.Sorted.{IsNonDecreasingBy-from_default, IsPartitionedBy-leb}
use Rattle.std.specs.List.{All, filter, flat_map, range_with_len}
use Rattle.std.proofs.lemmas.Bool.{and_from, and_left, and_right, le-leb, lt-leb, lt-ltb, le-ltb, false≢true, cases_lt, leb-true, leb-false}
use Rattle.std.proofs.lemmas.Bool.Decides.{nat_tests}
use Rattle.std.proofs.lemmas.List.{get_or_append_left, get_or-take, length-take, get_or_default, take_all, take_more, take_more_set, length-set, take-append-drop, drop_more, length-drop, get_or-drop, ext_get_or, get_or-append_right, length-append, map_more, length-replicate, get_or-replicate, get_or_past, append_cancel_left}
use Rattle.std.proofs.lemmas.List.Elements.{All-nil, All-cons, All-head, All-tail, All-push, All-take, All-filter, filter-append}
use Rattle.std.proofs.lemmas.List.Quantifiers.{all_pairs_push}
use Rattle.std.proofs.lemmas.List.FromFn.{length-range_with_len, get_or-range_with_len, length-map-range_with_len, get_or-map-range_with_len}
use Rattle.std.proofs.lemmas.List.Folds.{length-flat_map-take}
use Rattle.std.specs.Int.{bit_at}
use Rattle.std.proofs.lemmas.Nat.Bits.{bit_at-zero}
use Rattle.vx_base.specs.Bits.{bool_at, bit_of, unpacked, Filled}
use Rattle.vx_base.specs.Selections.{run_positions}
use Rattle.vx_base.specs.Trues.{trues}
use Rattle.vx_base.specs.MaskRuns.{is_in_run, is_in_runs, marked, AreRuns}
use Rattle.vx_base.proofs.PackedBits.{get_unpacked, length_unpacked}
use Rattle.vx_base.proofs.Runs.{runs_more}
use Rattle.vx_base.proofs.TrueRuns.{kept_none, kept_all, range_split, length_trues}

-- ---- places in runs

pub run_in : (run : ℕ × ℕ) (k : ℕ) → run.0 ≤ k → k < run.1 → is_in_run run k ≡ true
run_in run k low high = and_from (leb run.0 k) (ltb k run.1) (le-leb run.0 k low) (lt-ltb k run.1 high)

pub run_before : (run : ℕ × ℕ) (k : ℕ) → k < run.0 → is_in_run run k ≡ false
run_before run k l = and_left (leb run.0 k) (ltb k run.1) (lt-leb run.0 k l)

pub run_past : (run : ℕ × ℕ) (k : ℕ) → run.1 ≤ k → is_in_run run k ≡ false
run_past run k l = and_right (leb run.0 k) (ltb k run.1) (le-ltb k run.1 l)

pub runs_past : (runs : List (ℕ × ℕ)) (k : ℕ) → All (λ run. run.1 ≤ k) runs → is_in_runs runs k ≡ false
runs_past [] k all = refl
runs_past (run ∷ runs) k all =
    ap (λ b. b || is_in_runs runs k) (run_past run k (All-head (λ r. r.1 ≤ k) run runs all)) ∙ runs_past runs k (All-tail (λ r. r.1 ≤ k) run runs all)

pub runs_before : (runs : List (ℕ × ℕ)) (k : ℕ) → All (λ run. k < run.0) runs → is_in_runs runs k ≡ false
runs_before [] k all = refl
runs_before (run ∷ runs) k all =
    ap (λ b. b || is_in_runs runs k) (run_before run k (All-head (λ r. k < r.0) run runs all)) ∙ runs_before runs k (All-tail (λ r. k < r.0) run runs all)

pub or_assoc : (a b c : Bool) → (a || (b || c)) ≡ ((a || b) || c)
or_assoc true b c = refl
or_assoc false b c = refl

pub or_true : (a : Bool) → (a || true) ≡ true
or_true true = refl
or_true false = refl

pub or_false : (a : Bool) → (a || false) ≡ a
or_false true = refl
or_false false = refl

pub is_in_runs-append : (xs ys : List (ℕ × ℕ)) (k : ℕ) → is_in_runs (xs ++ ys) k ≡ (is_in_runs xs k || is_in_runs ys k)
is_in_runs-append [] ys k = refl
is_in_runs-append (x ∷ xs) ys k = ap (λ b. is_in_run x k || b) (is_in_runs-append xs ys k) ∙ or_assoc (is_in_run x k) (is_in_runs xs k) (is_in_runs ys k)

pub is_in_runs-push : (runs : List (ℕ × ℕ)) (run : ℕ × ℕ) (k : ℕ) → is_in_runs (runs ++ run ∷ []) k ≡ (is_in_runs runs k || is_in_run run k)
is_in_runs-push runs run k = is_in_runs-append runs (run ∷ []) k ∙ ap (λ b. is_in_runs runs k || b) (or_false (is_in_run run k))

-- ---- runs that lie apart

pub AreRuns-none : (len : ℕ) → AreRuns len []
AreRuns-none len = record {
  filled = All-nil (λ (run : ℕ × ℕ). run.0 < run.1);
  within = All-nil (λ (run : ℕ × ℕ). run.1 ≤ len);
  apart = λ i j d l m. absurd (omega arith);
}

pub AreRuns-push : (low len : ℕ) (runs : List (ℕ × ℕ)) (run : ℕ × ℕ) → AreRuns low runs → All (λ r. r.1 < run.0) runs → run.0 < run.1 → run.1 ≤ len → AreRuns len (runs ++ run ∷ [])
AreRuns-push low len runs run are past filled within = record {
  filled = All-push (λ (r : ℕ × ℕ). r.0 < r.1) runs run are.filled filled;
  within = All-push (λ (r : ℕ × ℕ). r.1 ≤ len) runs run (λ k d l. let p = past k d l in omega arith) within;
  apart = all_pairs_push (λ (r : ℕ × ℕ) (next : ℕ × ℕ). r.1 < next.0) runs run are.apart past;
}

pub AreRuns-longer : (low len : ℕ) (runs : List (ℕ × ℕ)) → low ≤ len → AreRuns low runs → AreRuns len runs
AreRuns-longer low len runs le are = record {
  filled = are.filled;
  within = λ k d l. let w = are.within k d l in omega arith;
  apart = are.apart;
}

pub AreRuns-tail : (len : ℕ) (run : ℕ × ℕ) (runs : List (ℕ × ℕ)) → AreRuns len (run ∷ runs) → AreRuns len runs
AreRuns-tail len run runs are = record {
  filled = All-tail (λ r. r.0 < r.1) run runs are.filled;
  within = All-tail (λ r. r.1 ≤ len) run runs are.within;
  apart = λ i j d l m. are.apart (suc i) (suc j) d (omega arith) (omega arith);
}

-- the runs that follow one start past its end
pub AreRuns-after : (len : ℕ) (run : ℕ × ℕ) (runs : List (ℕ × ℕ)) → AreRuns len (run ∷ runs) → All (λ r. run.1 < r.0) runs
AreRuns-after len run runs are = λ k d l. are.apart 0 (suc k) d (omega arith) (omega arith)

pub AreRuns-take : (len n : ℕ) (runs : List (ℕ × ℕ)) → AreRuns len runs → AreRuns len (take n runs)
AreRuns-take len n runs are = record {
  filled = All-take (λ (r : ℕ × ℕ). r.0 < r.1) n runs are.filled;
  within = All-take (λ (r : ℕ × ℕ). r.1 ≤ len) n runs are.within;
  apart = λ i j d l m.
      let short : length (take n runs) ≤ length runs = omega (arith, length-take n runs) in
      let small : length (take n runs) ≤ n = omega (arith, length-take n runs) in
      rw (get_or-take n runs i d (omega arith), get_or-take n runs j d (omega arith)) (are.apart i j d l (omega arith));
}

-- ---- their positions are those that are true

filter_like : (f g : ℕ → Bool) (start n : ℕ) → ((k : ℕ) → start ≤ k → k < start + n → f k ≡ g k) → filter f (range_with_len start n) ≡ filter g (range_with_len start n)
filter_like f g start zero same = refl
filter_like f g start (suc n) same =
    ap (λ b. cond b (start ∷ filter f (range_with_len (start + 1) n)) (filter f (range_with_len (start + 1) n))) (same start (omega arith) (omega arith))
    ∙ ap (λ ks. cond (g start) (start ∷ ks) ks) (filter_like f g (start + 1) n (λ k low high. same k (omega arith) (omega arith)))

positions_of_runs : (low len : ℕ) (runs : List (ℕ × ℕ)) → low ≤ len → AreRuns len runs → All (λ r. low ≤ r.0) runs
    → filter (is_in_runs runs) (range_with_len low (len - low)) ≡ flat_map run_positions runs
positions_of_runs low len [] le are from = kept_none (is_in_runs []) low (len - low) (λ k l h. refl)
positions_of_runs low len (run ∷ runs) le are from =
    let f = is_in_runs (run ∷ runs) in
    let after = AreRuns-after len run runs are in
    let first : low ≤ run.0 = All-head (λ r. low ≤ r.0) run runs from in
    let some : run.0 < run.1 = All-head (λ r. r.0 < r.1) run runs are.filled in
    let last : run.1 ≤ len = All-head (λ r. r.1 ≤ len) run runs are.within in
    let before : filter f (range_with_len low (run.0 - low)) ≡ [] =
    kept_none f low (run.0 - low) (λ k l h.
    ap (λ b. b || is_in_runs runs k) (run_before run k (omega arith)) ∙ runs_before runs k (λ i d m. let a = after i d m in omega arith)) in
    let within : filter f (range_with_len run.0 (run.1 - run.0)) ≡ range_with_len run.0 (run.1 - run.0) =
    kept_all f run.0 (run.1 - run.0) (λ k l h. ap (λ b. b || is_in_runs runs k) (run_in run k l (omega arith))) in
    let rest : filter f (range_with_len run.1 (len - run.1)) ≡ filter (is_in_runs runs) (range_with_len run.1 (len - run.1)) =
    filter_like f (is_in_runs runs) run.1 (len - run.1) (λ k l h. ap (λ b. b || is_in_runs runs k) (run_past run k l)) in
    ap (filter f) (range_split low run.0 len first (omega arith)) ∙ filter-append f (range_with_len low (run.0 - low)) (range_with_len run.0 (len - run.0))
    ∙ ap (λ ks. ks ++ filter f (range_with_len run.0 (len - run.0))) before
    ∙ ap (filter f) (range_split run.0 run.1 len (omega arith) last) ∙ filter-append f (range_with_len run.0 (run.1 - run.0)) (range_with_len run.1 (len - run.1))
    ∙ ap (λ ks. ks ++ filter f (range_with_len run.1 (len - run.1))) within
    ∙ ap (λ ks. range_with_len run.0 (run.1 - run.0) ++ ks) (rest ∙ positions_of_runs run.1 len runs last (AreRuns-tail len run runs are) (λ i d m. let a = after i d m in omega arith))

pub length-marked : (len : ℕ) (runs : List (ℕ × ℕ)) → length (marked len runs) ≡ len
length-marked len runs = length-map-range_with_len (is_in_runs runs) 0 len

pub bool_at-marked : (len : ℕ) (runs : List (ℕ × ℕ)) (k : ℕ) → k < len → bool_at (marked len runs) k ≡ is_in_runs runs k
bool_at-marked len runs k l = get_or-map-range_with_len (is_in_runs runs) 0 len k k false l (omega arith)

pub trues_of_runs : (len : ℕ) (runs : List (ℕ × ℕ)) → AreRuns len runs → trues (marked len runs) ≡ flat_map run_positions runs
trues_of_runs len runs are =
    let all : len - 0 ≡ len = omega arith in
    ap (λ n. filter (bool_at (marked len runs)) (range_with_len 0 n)) (length-marked len runs)
    ∙ filter_like (bool_at (marked len runs)) (is_in_runs runs) 0 len (λ k l h. bool_at-marked len runs k (omega arith))
    ∙ ap (λ n. filter (is_in_runs runs) (range_with_len 0 n)) (sym all)
    ∙ positions_of_runs 0 len runs (omega arith) are (λ i d m. omega arith)

pub count_of_runs : (len : ℕ) (runs : List (ℕ × ℕ)) → AreRuns len runs → count_by (λ b. b) (marked len runs) ≡ length (flat_map run_positions runs)
count_of_runs len runs are = sym (length_trues (marked len runs)) ∙ ap length (trues_of_runs len runs are)

-- ---- booleans have one list of runs

-- the first place of a list of runs is in no list that starts later
starts_alike : (x : ℕ × ℕ) (xs ys : List (ℕ × ℕ)) → x.0 < x.1 → All (λ r. x.0 < r.0) ys → is_in_runs (x ∷ xs) x.0 ≡ is_in_runs ys x.0 → ⊥
starts_alike x xs ys some later same =
    false≢true (sym (runs_before ys x.0 later) ∙ sym same ∙ ap (λ b. b || is_in_runs xs x.0) (run_in x x.0 (omega arith) some))

-- where one run ends within another, what follows it starts later
ends_alike : (x y : ℕ × ℕ) (xs ys : List (ℕ × ℕ)) → y.0 ≤ x.1 → x.1 < y.1 → All (λ r. x.1 < r.0) xs → is_in_runs (x ∷ xs) x.1 ≡ is_in_runs (y ∷ ys) x.1 → ⊥
ends_alike x y xs ys low high later same =
    false≢true (sym (runs_before xs x.1 later) ∙ sym (ap (λ b. b || is_in_runs xs x.1) (run_past x x.1 (omega arith))) ∙ same ∙ ap (λ b. b || is_in_runs ys x.1) (run_in y x.1 low high))

same_starts : (len : ℕ) (x y : ℕ × ℕ) (xs ys : List (ℕ × ℕ)) → AreRuns len (x ∷ xs) → AreRuns len (y ∷ ys) → is_in_runs (x ∷ xs) x.0 ≡ is_in_runs (y ∷ ys) x.0 → y.0 ≤ x.0
same_starts len x y xs ys a b same = elim (cases_lt x.0 y.0) [
  | inr le ↦ le
  | inl lt ↦
      let after = AreRuns-after len y ys b in
      let some : y.0 < y.1 = All-head (λ r. r.0 < r.1) y ys b.filled in
      absurd (starts_alike x xs (y ∷ ys) (All-head (λ r. r.0 < r.1) x xs a.filled)
      (All-cons (λ (r : ℕ × ℕ). x.0 < r.0) y ys lt (λ i d m. let l = after i d m in omega arith)) same)
]

same_ends : (len : ℕ) (x y : ℕ × ℕ) (xs ys : List (ℕ × ℕ)) → AreRuns len (x ∷ xs) → y.0 ≤ x.1 → is_in_runs (x ∷ xs) x.1 ≡ is_in_runs (y ∷ ys) x.1 → y.1 ≤ x.1
same_ends len x y xs ys a low same = elim (cases_lt x.1 y.1) [
  | inr le ↦ le
  | inl lt ↦ absurd (ends_alike x y xs ys low lt (AreRuns-after len x xs a) same)
]

same_tails : (len : ℕ) (x y : ℕ × ℕ) (xs ys : List (ℕ × ℕ)) → AreRuns len (x ∷ xs) → AreRuns len (y ∷ ys) → x.1 ≡ y.1 → ((k : ℕ) → is_in_runs (x ∷ xs) k ≡ is_in_runs (y ∷ ys) k)
    → (k : ℕ) → is_in_runs xs k ≡ is_in_runs ys k
same_tails len x y xs ys a b end same k = elim (cases_lt k x.1) [
  | inl lt ↦
      let afterx = AreRuns-after len x xs a in
      let aftery = AreRuns-after len y ys b in
      runs_before xs k (λ i d m. let l = afterx i d m in omega arith) ∙ sym (runs_before ys k (λ i d m. let l = aftery i d m in omega arith))
  | inr le ↦
      sym (ap (λ t. t || is_in_runs xs k) (run_past x k le)) ∙ same k ∙ ap (λ t. t || is_in_runs ys k) (run_past y k (omega arith))
]

pub same_runs : (len : ℕ) (xs ys : List (ℕ × ℕ)) → AreRuns len xs → AreRuns len ys → ((k : ℕ) → is_in_runs xs k ≡ is_in_runs ys k) → xs ≡ ys
same_runs len [] [] a b same = refl
same_runs len [] (y ∷ ys) a b same =
    absurd (starts_alike y ys [] (All-head (λ r. r.0 < r.1) y ys b.filled) (All-nil (λ (r : ℕ × ℕ). y.0 < r.0)) (sym (same y.0)))
same_runs len (x ∷ xs) [] a b same =
    absurd (starts_alike x xs [] (All-head (λ r. r.0 < r.1) x xs a.filled) (All-nil (λ (r : ℕ × ℕ). x.0 < r.0)) (same x.0))
same_runs len (x ∷ xs) (y ∷ ys) a b same =
    let low = same_starts len x y xs ys a b (same x.0) in
    let high = same_starts len y x ys xs b a (sym (same y.0)) in
    let somex : x.0 < x.1 = All-head (λ r. r.0 < r.1) x xs a.filled in
    let somey : y.0 < y.1 = All-head (λ r. r.0 < r.1) y ys b.filled in
    let before = same_ends len x y xs ys a (omega arith) (same x.1) in
    let after = same_ends len y x ys xs b (omega arith) (sym (same y.1)) in
    let start : x.0 ≡ y.0 = omega arith in
    let end : x.1 ≡ y.1 = omega arith in
    let head : x ≡ y = ap (λ (n : ℕ). (n, x.1)) start ∙ ap (λ (n : ℕ). (y.0, n)) end in
    ap (λ r. r ∷ xs) head ∙ ap (λ rs. y ∷ rs) (same_runs len xs ys (AreRuns-tail len x xs a) (AreRuns-tail len y ys b) (same_tails len x y xs ys a b end same))

pub same_from_marked : (len : ℕ) (xs ys : List (ℕ × ℕ)) → AreRuns len xs → AreRuns len ys → marked len xs ≡ marked len ys → xs ≡ ys
same_from_marked len xs ys a b same = same_runs len xs ys a b (λ k.
    elim (cases_lt k len) [
      | inl l ↦ sym (bool_at-marked len xs k l) ∙ ap (λ m. bool_at m k) same ∙ bool_at-marked len ys k l
      | inr l ↦ runs_past xs k (λ i d m. let w = a.within i d m in omega arith) ∙ sym (runs_past ys k (λ i d m. let w = b.within i d m in omega arith))
    ])

-- ---- one run more, which may touch the last

pub run_joined : (a b c k : ℕ) → a ≤ b → b ≤ c → is_in_run (a, c) k ≡ (is_in_run (a, b) k || is_in_run (b, c) k)
run_joined a b c k low high = grind (arith, nat_tests)

-- the runs before the last end before it starts
pub AreRuns-last : (len n : ℕ) (runs : List (ℕ × ℕ)) (d : ℕ × ℕ) → n < length runs → AreRuns len runs → All (λ r. r.1 < (get_or runs n d).0) (take n runs)
AreRuns-last len n runs d l are = λ k e m.
    let small : k < n = omega (arith, length-take n runs) in
    rw (get_or-take n runs k e small, get_or_default runs k e d (omega arith)) (are.apart k n d small l)

pub touching : (runs : List (ℕ × ℕ)) (n : ℕ) (d : ℕ × ℕ) (start end : ℕ) → n + 1 ≡ length runs → (get_or runs n d).1 ≡ start → start < end → AreRuns start runs
    → AreRuns end (set runs n ((get_or runs n d).0, end)) × ((k : ℕ) → is_in_runs (set runs n ((get_or runs n d).0, end)) k ≡ (is_in_runs runs k || is_in_run (start, end) k))
touching runs n d start end count meet some are =
    let last = get_or runs n d in
    let init = take n runs in
    let new : ℕ × ℕ = (last.0, end) in
    let filled : last.0 < last.1 = are.filled n d (omega arith) in
    let whole : runs ≡ init ++ last ∷ [] = sym (take_all (n + 1) runs (omega arith)) ∙ take_more runs n d (omega arith) in
    let put : set runs n new ≡ init ++ new ∷ [] =
    sym (take_all (n + 1) (set runs n new) (omega (arith, length-set runs n new))) ∙ take_more_set runs n new (omega arith) in
    let each : (k : ℕ) → is_in_runs (set runs n new) k ≡ (is_in_runs runs k || is_in_run (start, end) k) = λ k.
    ap (λ rs. is_in_runs rs k) put ∙ is_in_runs-push init new k
    ∙ ap (λ b. is_in_runs init k || b) (run_joined last.0 last.1 end k (omega arith) (omega arith) ∙ ap (λ m. is_in_run last k || is_in_run (m, end) k) meet)
    ∙ or_assoc (is_in_runs init k) (is_in_run last k) (is_in_run (start, end) k)
    ∙ ap (λ b. b || is_in_run (start, end) k) (sym (ap (λ rs. is_in_runs rs k) whole ∙ is_in_runs-push init last k)) in
    (rw put (AreRuns-push start end init new (AreRuns-take start n runs are) (AreRuns-last start n runs d (omega arith) are) (omega arith) (omega arith)), each)

-- the runs end before a later start, where the last does not touch it
pub apart_from : (runs : List (ℕ × ℕ)) (n start : ℕ) (d : ℕ × ℕ) → n + 1 ≡ length runs → (get_or runs n d).1 ≢ start → AreRuns start runs → All (λ r. r.1 < start) runs
apart_from runs n start d count other are = λ k e l.
    let last : (get_or runs n d).1 ≤ start = are.within n d (omega arith) in
    let filled : (get_or runs n d).0 < (get_or runs n d).1 = are.filled n d (omega arith) in
    elim (cases_lt k n) [
      | inl lt ↦ let h = are.apart k n d lt (omega arith) in rw (get_or_default runs k e d l) (omega arith)
      | inr ge ↦ let at : k ≡ n = omega arith in rw (get_or_default runs k e d l, at) (omega arith)
    ]

-- ---- the run in which a place may lie

-- of the runs, those that start at a place or before come first
starts_rise : (len : ℕ) (runs : List (ℕ × ℕ)) → AreRuns len runs → IsNonDecreasingBy (λ (r : ℕ × ℕ). r.0) runs
starts_rise len runs are = IsNonDecreasingBy-from_default (λ (r : ℕ × ℕ). r.0) runs (0, 0) (λ i j le l. elim (cases_lt i j) [
  | inl lt ↦
      let filled = are.filled i (0, 0) (omega arith) in
      let apart = are.apart i j (0, 0) lt l in
      omega arith
  | inr ge ↦ let same : i ≡ j = omega arith in rw same (omega arith)
])

pub starts_partition : (len : ℕ) (runs : List (ℕ × ℕ)) (i : ℕ) → AreRuns len runs → IsPartitionedBy (λ (r : ℕ × ℕ). leb r.0 i) runs
starts_partition len runs i are = IsPartitionedBy-leb (λ (r : ℕ × ℕ). r.0) runs i (starts_rise len runs are)

-- the last run that starts at a place or before tells whether the place lies in one of them
pub found_in : (len : ℕ) (runs : List (ℕ × ℕ)) (i n : ℕ) (d : ℕ × ℕ) → AreRuns len runs → n < length runs → IsPartitionPoint (λ (r : ℕ × ℕ). leb r.0 i ≡ true) (λ (r : ℕ × ℕ). leb r.0 i ≡ false) runs (n + 1)
    → ltb i (get_or runs n d).1 ≡ is_in_runs runs i
found_in len runs i n d are within point =
    let run = get_or runs n d in
    let init = take n runs in
    let rest = drop (n + 1) runs in
    let low : run.0 ≤ i = leb-true run.0 i (point.0 n d (omega arith) (omega arith)) in
    let whole : runs ≡ init ++ (run ∷ rest) = sym (take-append-drop n runs) ∙ ap (λ rs. init ++ rs) (drop_more runs n d within) in
    let before : is_in_runs init i ≡ false = runs_past init i (λ k e l. let p = AreRuns-last len n runs d within are k e l in omega arith) in
    let after : is_in_runs rest i ≡ false = runs_before rest i (λ k e l.
    let size : k < length runs - (n + 1) = omega (arith, length-drop (n + 1) runs) in
    rw (get_or-drop (n + 1) runs k e) (leb-false (get_or runs (n + 1 + k) e).0 i (point.1 (n + 1 + k) e (omega arith) (omega arith)))) in
    let here : is_in_run run i ≡ ltb i run.1 = ap (λ b. b && ltb i run.1) (le-leb run.0 i low) in
    sym (ap (λ rs. is_in_runs rs i) whole ∙ is_in_runs-append init (run ∷ rest) i ∙ ap (λ b. b || (is_in_run run i || is_in_runs rest i)) before
    ∙ ap (λ b. is_in_run run i || b) after ∙ or_false (is_in_run run i) ∙ here)

pub found_nowhere : (runs : List (ℕ × ℕ)) (i n : ℕ) → n ≡ 0 → IsPartitionPoint (λ (r : ℕ × ℕ). leb r.0 i ≡ true) (λ (r : ℕ × ℕ). leb r.0 i ≡ false) runs n → is_in_runs runs i ≡ false
found_nowhere runs i n none point = runs_before runs i (λ k d l. leb-false (get_or runs k d).0 i (point.1 k d (omega arith) l))

-- ---- runs that follow other rows

abbrev pub shifted : ℕ → ℕ × ℕ → ℕ × ℕ
shifted at run = (at + run.0, at + run.1)

in_shifted : (at k : ℕ) (run : ℕ × ℕ) → at ≤ k → is_in_run (shifted at run) k ≡ is_in_run run (k - at)
in_shifted at k run le = elim (cases_lt (k - at) run.0) [
  | inl lt ↦ run_before (shifted at run) k (omega arith) ∙ sym (run_before run (k - at) lt)
  | inr ge ↦ elim (cases_lt (k - at) run.1) [
    | inl lt ↦ run_in (shifted at run) k (omega arith) (omega arith) ∙ sym (run_in run (k - at) ge lt)
    | inr past ↦ run_past (shifted at run) k (omega arith) ∙ sym (run_past run (k - at) past)
  ]
]

in_all_shifted : (at k : ℕ) (runs : List (ℕ × ℕ)) → at ≤ k → is_in_runs (map (shifted at) runs) k ≡ is_in_runs runs (k - at)
in_all_shifted at k [] le = refl
in_all_shifted at k (run ∷ runs) le =
    ap (λ b. b || is_in_runs (map (shifted at) runs) k) (in_shifted at k run le) ∙ ap (λ b. is_in_run run (k - at) || b) (in_all_shifted at k runs le)

before_shifted : (at k : ℕ) (runs : List (ℕ × ℕ)) → k < at → is_in_runs (map (shifted at) runs) k ≡ false
before_shifted at k [] l = refl
before_shifted at k (run ∷ runs) l =
    ap (λ b. b || is_in_runs (map (shifted at) runs) k) (run_before (shifted at run) k (omega arith)) ∙ before_shifted at k runs l

pub marked-append : (at n : ℕ) (old new runs : List (ℕ × ℕ)) → AreRuns at old → ((k : ℕ) → is_in_runs new k ≡ (is_in_runs old k || is_in_runs (map (shifted at) runs) k))
    → marked (at + n) new ≡ marked at old ++ marked n runs
marked-append at n old new runs are each = ext_get_or false (marked (at + n) new) (marked at old ++ marked n runs) size (λ k l.
    let within : k < at + n = omega (arith, size-new) in
    bool_at-marked (at + n) new k within ∙ each k ∙ elim (cases_lt k at) [
      | inl lt ↦ ap (λ b. is_in_runs old k || b) (before_shifted at k runs lt) ∙ or_false (is_in_runs old k)
          ∙ sym (bool_at-marked at old k lt) ∙ sym (get_or_append_left (marked at old) (marked n runs) false k (omega (arith, size-old)))
      | inr ge ↦ ap (λ b. b || is_in_runs (map (shifted at) runs) k) (runs_past old k (λ i d m. let w = are.within i d m in omega arith))
          ∙ in_all_shifted at k runs ge ∙ sym (bool_at-marked n runs (k - at) (omega arith)) ∙ sym (get_or-append_right (marked at old) (marked n runs) at k false size-old ge)
    ])
  where
    size-new : length (marked (at + n) new) ≡ at + n
    size-new = length-marked (at + n) new

    size-old : length (marked at old) ≡ at
    size-old = length-marked at old

    size : length (marked (at + n) new) ≡ length (marked at old ++ marked n runs)
    size = omega (arith, size-new, size-old, length-marked n runs, length-append (marked at old) (marked n runs))

-- one run more of those that follow
pub shifted_more : (at i k : ℕ) (old now new : List (ℕ × ℕ)) (runs : List (ℕ × ℕ)) (d : ℕ × ℕ) → i < length runs
    → is_in_runs now k ≡ (is_in_runs old k || is_in_runs (map (shifted at) (take i runs)) k)
    → is_in_runs new k ≡ (is_in_runs now k || is_in_run (shifted at (get_or runs i d)) k)
    → is_in_runs new k ≡ (is_in_runs old k || is_in_runs (map (shifted at) (take (i + 1) runs)) k)
shifted_more at i k old now new runs d l before more =
    let run = get_or runs i d in
    more ∙ ap (λ b. b || is_in_run (shifted at run) k) before
    ∙ sym (or_assoc (is_in_runs old k) (is_in_runs (map (shifted at) (take i runs)) k) (is_in_run (shifted at run) k))
    ∙ ap (λ b. is_in_runs old k || b) (sym (ap (λ rs. is_in_runs rs k) (map_more (shifted at) runs i d l) ∙ is_in_runs-push (map (shifted at) (take i runs)) (shifted at run) k))

pub ends_before : (len i : ℕ) (runs : List (ℕ × ℕ)) (d : ℕ × ℕ) → i < length runs → AreRuns len runs → All (λ r. r.1 ≤ (get_or runs i d).0) (take i runs)
ends_before len i runs d l are = λ k e m. let h = AreRuns-last len i runs d l are k e m in omega arith

-- ---- how many rows lie in runs

pub rows_within : (runs : List (ℕ × ℕ)) (i : ℕ) (d : ℕ × ℕ) → i < length runs
    → length (flat_map run_positions (take i runs)) + ((get_or runs i d).1 - (get_or runs i d).0) ≤ length (flat_map run_positions runs)
rows_within runs i d l = omega (arith, length-flat_map-take run_positions runs i d l, length-range_with_len (get_or runs i d).0 ((get_or runs i d).1 - (get_or runs i d).0))

pub rows_more : (runs : List (ℕ × ℕ)) (i : ℕ) (d : ℕ × ℕ) → i < length runs
    → length (flat_map run_positions (take (i + 1) runs)) ≡ length (flat_map run_positions (take i runs)) + ((get_or runs i d).1 - (get_or runs i d).0)
rows_more runs i d l =
    ap length (runs_more run_positions runs i d l) ∙ length-append (flat_map run_positions (take i runs)) (run_positions (get_or runs i d))
    ∙ ap (λ n. length (flat_map run_positions (take i runs)) + n) (length-range_with_len (get_or runs i d).0 ((get_or runs i d).1 - (get_or runs i d).0))

-- ---- runs as bits

-- the bits of one run more are set
pub bits_more : (old now new : List ℕ) (runs : List (ℕ × ℕ)) (i : ℕ) (d : ℕ × ℕ) → i < length runs → ((k : ℕ) → bit_of now k ≡ (bit_of old k || is_in_runs (take i runs) k))
    → Filled now new (get_or runs i d).0 (get_or runs i d).1 true → (k : ℕ) → bit_of new k ≡ (bit_of old k || is_in_runs (take (i + 1) runs) k)
bits_more old now new runs i d l before filled k =
    let run = get_or runs i d in
    let here : bit_of new k ≡ (bit_of now k || is_in_run run k) = elim (cases_lt k run.0) [
      | inl lt ↦ filled.1 k lt ∙ sym (or_false (bit_of now k)) ∙ ap (λ b. bit_of now k || b) (sym (run_before run k lt))
      | inr low ↦ elim (cases_lt k run.1) [
        | inl high ↦ filled.0 k low high ∙ sym (or_true (bit_of now k)) ∙ ap (λ b. bit_of now k || b) (sym (run_in run k low high))
        | inr past ↦ filled.2 k past ∙ sym (or_false (bit_of now k)) ∙ ap (λ b. bit_of now k || b) (sym (run_past run k past))
      ]
    ] in
    here ∙ ap (λ b. b || is_in_run run k) (before k) ∙ sym (or_assoc (bit_of old k) (is_in_runs (take i runs) k) (is_in_run run k))
    ∙ ap (λ b. bit_of old k || b) (sym (ap (λ rs. is_in_runs rs k) (take_more runs i d l) ∙ is_in_runs-push (take i runs) run k))

bit_of_zeroes : (n k : ℕ) → bit_of (replicate n 0) k ≡ false
bit_of_zeroes n k =
    let byte : get_or (replicate n 0) (k / 8) 0 ≡ 0 = elim (cases_lt (k / 8) n) [
      | inl lt ↦ get_or-replicate n (k / 8) 0 0 lt
      | inr ge ↦ get_or_past (replicate n 0) (k / 8) 0 (omega (arith, length-replicate {A = ℕ} n 0))
    ] in
    ap (λ b. eqb (bit_at b (k % 8)) 1) byte ∙ ap (λ b. eqb b 1) (bit_at-zero (k % 8))

pub bits_of_marked : (bs : List ℕ) (n len : ℕ) (runs : List (ℕ × ℕ)) → ((k : ℕ) → bit_of bs k ≡ (bit_of (replicate n 0) k || is_in_runs runs k)) → unpacked bs 0 len ≡ marked len runs
bits_of_marked bs n len runs each = ext_get_or false (unpacked bs 0 len) (marked len runs) (length_unpacked bs 0 len ∙ sym (length-marked len runs)) (λ k l.
    let small : k < len = omega (arith, length_unpacked bs 0 len) in
    let place : 0 + k ≡ k = omega arith in
    get_unpacked bs 0 len k false small ∙ ap (bit_of bs) place ∙ each k ∙ ap (λ b. b || is_in_runs runs k) (bit_of_zeroes n k) ∙ sym (bool_at-marked len runs k small))

-- the runs lie within the bytes
pub within_bytes : (len n : ℕ) (runs : List (ℕ × ℕ)) → len ≤ 8 * n → AreRuns len runs → All (λ run. (run.0 < run.1) × (run.1 ≤ 8 * n)) runs
within_bytes len n runs room are = λ k d l.
    let w = are.within k d l in
    (are.filled k d l, omega arith)

-- ---- runs of one boolean

pub marked-none : (n : ℕ) → marked n [] ≡ replicate n false
marked-none n = ext_get_or false (marked n []) (replicate n false) (length-marked n [] ∙ sym (length-replicate n false)) (λ k l.
    let small : k < n = omega (arith, length-marked n []) in
    bool_at-marked n [] k small ∙ sym (get_or-replicate n k false false small))

pub marked-all : (n : ℕ) → marked n ((0, n) ∷ []) ≡ replicate n true
marked-all n = ext_get_or false (marked n ((0, n) ∷ [])) (replicate n true) (length-marked n ((0, n) ∷ []) ∙ sym (length-replicate n true)) (λ k l.
    let small : k < n = omega (arith, length-marked n ((0, n) ∷ [])) in
    bool_at-marked n ((0, n) ∷ []) k small ∙ ap (λ b. b || false) (run_in (0, n) k (omega arith) small) ∙ sym (get_or-replicate n k true false small))

-- rows that are false follow
pub marked-falses : (at n : ℕ) (runs : List (ℕ × ℕ)) → AreRuns at runs → marked (at + n) runs ≡ marked at runs ++ replicate n false
marked-falses at n runs are =
    marked-append at n runs runs [] are (λ k. sym (or_false (is_in_runs runs k))) ∙ ap (λ bs. marked at runs ++ bs) (marked-none n)

-- rows that are true follow
pub marked-trues : (at n : ℕ) (old new : List (ℕ × ℕ)) → AreRuns at old → ((k : ℕ) → is_in_runs new k ≡ (is_in_runs old k || is_in_run (at, at + n) k))
    → marked (at + n) new ≡ marked at old ++ replicate n true
marked-trues at n old new are each =
    let start : at + 0 ≡ at = omega arith in
    let shift : (k : ℕ) → is_in_run (at, at + n) k ≡ is_in_runs (map (shifted at) ((0, n) ∷ [])) k = λ k.
    ap (λ s. is_in_run (s, at + n) k) (sym start) ∙ sym (or_false (is_in_run (at + 0, at + n) k)) in
    marked-append at n old new ((0, n) ∷ []) are (λ k. each k ∙ ap (λ b. is_in_runs old k || b) (shift k)) ∙ ap (λ bs. marked at old ++ bs) (marked-all n)

-- ---- booleans are told by the places at which they are true

kept_later : (g : ℕ → Bool) (start n : ℕ) → All (λ k. start ≤ k) (filter g (range_with_len start n))
kept_later g start n =
    All-filter g (λ k. start ≤ k) (range_with_len start n) (λ i d l. rw (get_or-range_with_len start n i d (omega (arith, length-range_with_len start n))) (omega arith))

-- the first is kept by both or by neither
same_first : (x y : Bool) (start : ℕ) (fs gs : List ℕ) → All (λ k. start + 1 ≤ k) fs → All (λ k. start + 1 ≤ k) gs → cond x (start ∷ fs) fs ≡ cond y (start ∷ gs) gs → (x ≡ y) × (fs ≡ gs)
same_first true true start fs gs lf lg e = (refl, append_cancel_left (start ∷ []) fs gs e)
same_first false false start fs gs lf lg e = (refl, e)
same_first true false start fs gs lf lg e = let h = All-head (λ k. start + 1 ≤ k) start fs (subst (All (λ k. start + 1 ≤ k)) (sym e) lg) in absurd (omega arith)
same_first false true start fs gs lf lg e = let h = All-head (λ k. start + 1 ≤ k) start gs (subst (All (λ k. start + 1 ≤ k)) e lf) in absurd (omega arith)

-- two tests that keep the same of a range agree there
same_kept : (f g : ℕ → Bool) (start n : ℕ) → filter f (range_with_len start n) ≡ filter g (range_with_len start n) → (k : ℕ) → start ≤ k → k < start + n → f k ≡ g k
same_kept f g start zero same k low high = absurd (omega arith)
same_kept f g start (suc n) same k low high =
    let h = same_first (f start) (g start) start (filter f (range_with_len (start + 1) n)) (filter g (range_with_len (start + 1) n)) (kept_later f (start + 1) n) (kept_later g (start + 1) n) same in
    elim (cases_lt start k) [
      | inl lt ↦ same_kept f g (start + 1) n h.1 k (omega arith) (omega arith)
      | inr ge ↦ let at : k ≡ start = omega arith in ap f at ∙ h.0 ∙ ap g (sym at)
    ]

pub marked_from_trues : (bits : List Bool) (runs : List (ℕ × ℕ)) → AreRuns (length bits) runs → flat_map run_positions runs ≡ trues bits → marked (length bits) runs ≡ bits
marked_from_trues bits runs are same =
    let n = length bits in
    let kept : filter (bool_at (marked n runs)) (range_with_len 0 n) ≡ filter (bool_at bits) (range_with_len 0 n) =
    ap (λ m. filter (bool_at (marked n runs)) (range_with_len 0 m)) (sym (length-marked n runs)) ∙ trues_of_runs n runs are ∙ same in
    ext_get_or false (marked n runs) bits (length-marked n runs) (λ k l.
    same_kept (bool_at (marked n runs)) (bool_at bits) 0 n kept k (omega arith) (omega (arith, length-marked n runs)))

-- ---- the run of all rows

pub AreRuns-one : (n : ℕ) → 0 < n → AreRuns n ((0, n) ∷ [])
AreRuns-one n some = AreRuns-push 0 n [] (0, n) (AreRuns-none 0) (All-nil (λ (run : ℕ × ℕ). run.1 < 0)) some (omega arith)

-- Rows that lie in runs of both of two masks.
use Rattle.std.proofs.Common.{ℕ, zero, suc, ◌+◌, ◌-◌, ◌<◌, ◌≤◌, ◌≡◌, Bool, true, false, List, [], ◌∷◌, ◌++◌, length, get_or, take, drop, min, max, refl, sym, ◌∙◌, ap, inl, inr, ◌⊎◌, arith}
use Rattle.std.specs.Prelude.{◌||◌, ◌&&◌}
use Rattle.std.specs.List.{All}
use Rattle.std.proofs.lemmas.Bool.{cases_lt}
use Rattle.std.proofs.lemmas.List.{take_all, take_more, take-append-drop, drop_more, length-drop, get_or-drop, get_or_default, ext_get_or}
use Rattle.std.proofs.lemmas.List.Elements.{All-nil, All-push}
use Rattle.vx_base.specs.Bits.{bool_at, both}
use Rattle.vx_base.specs.MaskRuns.{is_in_run, is_in_runs, marked, AreRuns}
use Rattle.vx_base.proofs.MaskRuns.{run_in, run_before, run_past, runs_before, runs_past, or_false, is_in_runs-append, AreRuns-none, AreRuns-longer, length-marked, bool_at-marked}

and_false : (a : Bool) → (a && false) ≡ false
and_false true = refl
and_false false = refl

and_comm : (a b : Bool) → (a && b) ≡ (b && a)
and_comm true b = sym (and_true b)
  where
    and_true : (c : Bool) → (c && true) ≡ c
    and_true true = refl
    and_true false = refl
and_comm false b = sym (and_false b)

-- what two runs share
pub in_shared : (x y : ℕ × ℕ) (k : ℕ) → is_in_run (max x.0 y.0, min x.1 y.1) k ≡ (is_in_run x k && is_in_run y k)
in_shared x y k = elim (cases_lt k x.0) [
  | inl lt ↦ run_before (max x.0 y.0, min x.1 y.1) k (omega arith) ∙ sym (ap (λ b. b && is_in_run y k) (run_before x k lt))
  | inr ge ↦ elim (cases_lt k y.0) [
    | inl lt ↦ run_before (max x.0 y.0, min x.1 y.1) k (omega arith) ∙ sym (ap (λ b. is_in_run x k && b) (run_before y k lt) ∙ and_false (is_in_run x k))
    | inr above ↦ elim (cases_lt k x.1) [
      | inr past ↦ run_past (max x.0 y.0, min x.1 y.1) k (omega arith) ∙ sym (ap (λ b. b && is_in_run y k) (run_past x k past))
      | inl small ↦ elim (cases_lt k y.1) [
        | inr past ↦ run_past (max x.0 y.0, min x.1 y.1) k (omega arith) ∙ sym (ap (λ b. is_in_run x k && b) (run_past y k past) ∙ and_false (is_in_run x k))
        | inl less ↦ run_in (max x.0 y.0, min x.1 y.1) k (omega arith) (omega arith)
            ∙ sym (ap (λ b. b && is_in_run y k) (run_in x k ge small) ∙ run_in y k above less)
      ]
    ]
  ]
]

-- two runs that share nothing
pub in_none : (start end k : ℕ) → end ≤ start → is_in_run (start, end) k ≡ false
in_none start end k le = elim (cases_lt k start) [
  | inl lt ↦ run_before (start, end) k lt
  | inr ge ↦ run_past (start, end) k (omega arith)
]

-- of the runs from place i on, only run i holds a row before its end
pub in_run_at : (len i k : ℕ) (runs : List (ℕ × ℕ)) (d : ℕ × ℕ) → AreRuns len runs → i < length runs → All (λ run. run.1 ≤ k) (take i runs) → k < (get_or runs i d).1 → is_in_runs runs k ≡ is_in_run (get_or runs i d) k
in_run_at len i k runs d are l before small =
    let run = get_or runs i d in
    let init = take i runs in
    let rest = drop (i + 1) runs in
    let whole : runs ≡ init ++ (run ∷ rest) = sym (take-append-drop i runs) ∙ ap (λ rs. init ++ rs) (drop_more runs i d l) in
    let after : is_in_runs rest k ≡ false = runs_before rest k (λ m e h.
    let size : m < length runs - (i + 1) = omega (arith, length-drop (i + 1) runs) in
    let gap = are.apart i (i + 1 + m) d (omega arith) (omega arith) in
    rw (get_or-drop (i + 1) runs m e, get_or_default runs (i + 1 + m) e d (omega arith)) (omega arith)) in
    ap (λ rs. is_in_runs rs k) whole ∙ is_in_runs-append init (run ∷ rest) k ∙ ap (λ b. b || (is_in_run run k || is_in_runs rest k)) (runs_past init k before)
    ∙ ap (λ b. is_in_run run k || b) after ∙ or_false (is_in_run run k)

-- the runs that were gone through, i and j of them, end by a place, before which these are the runs of both
pub record IsMet (len : ℕ) (left right : List (ℕ × ℕ)) (i j : ℕ) (runs : List (ℕ × ℕ)) : Type 0 where
  pub place : ℕ
  pub within : place ≤ len
  pub apart : AreRuns place runs
  pub before_left : All (λ run. run.1 ≤ place) (take i left)
  pub before_right : All (λ run. run.1 ≤ place) (take j right)
  pub low : (d : ℕ × ℕ) → i < length left → j < length right → place ≤ max (get_or left i d).0 (get_or right j d).0
  pub past : (d : ℕ × ℕ) → i < length left → j < length right → All (λ run. run.1 < max (get_or left i d).0 (get_or right j d).0) runs
  pub ahead_left : (d : ℕ × ℕ) → i < length left → place ≤ (get_or left i d).1
  pub ahead_right : (d : ℕ × ℕ) → j < length right → place ≤ (get_or right j d).1
  pub rows : (k : ℕ) → k < place → is_in_runs runs k ≡ (is_in_runs left k && is_in_runs right k)

pub IsMet-none : (len : ℕ) (left right : List (ℕ × ℕ)) (runs : List (ℕ × ℕ)) → runs ≡ [] → IsMet len left right 0 0 runs
IsMet-none len left right runs none = record {
  place = 0;
  within = omega arith;
  apart = rw none (AreRuns-none 0);
  before_left = All-nil (λ (run : ℕ × ℕ). run.1 ≤ 0);
  before_right = All-nil (λ (run : ℕ × ℕ). run.1 ≤ 0);
  low = λ d l m. omega arith;
  past = λ d l m. rw none (All-nil (λ (run : ℕ × ℕ). run.1 < max (get_or left 0 d).0 (get_or right 0 d).0));
  ahead_left = λ d l. omega arith;
  ahead_right = λ d l. omega arith;
  rows = λ k l. absurd (omega arith);
}

IsMet-swap : (len : ℕ) (left right : List (ℕ × ℕ)) (i j : ℕ) (runs : List (ℕ × ℕ)) → IsMet len left right i j runs → IsMet len right left j i runs
IsMet-swap len left right i j runs met = record {
  place = met.place;
  within = met.within;
  apart = met.apart;
  before_left = met.before_right;
  before_right = met.before_left;
  low = λ d l m. let h = met.low d m l in omega arith;
  past = λ d l m. λ k e n. let h = met.past d m l k e n in omega arith;
  ahead_left = met.ahead_right;
  ahead_right = met.ahead_left;
  rows = λ k l. met.rows k l ∙ and_comm (is_in_runs left k) (is_in_runs right k);
}

-- one run more, that of the left, which ends no later than the other
IsMet-left : (len : ℕ) (left right : List (ℕ × ℕ)) (i j : ℕ) (runs new : List (ℕ × ℕ)) (d : ℕ × ℕ) → AreRuns len left → AreRuns len right → i < length left → j < length right
    → (get_or left i d).1 ≤ (get_or right j d).1 → IsMet len left right i j runs → AreRuns (get_or left i d).1 new
    → ((k : ℕ) → is_in_runs new k ≡ (is_in_runs runs k || (is_in_run (get_or left i d) k && is_in_run (get_or right j d) k))) → IsMet len left right (i + 1) j new
IsMet-left len left right i j runs new d a b li lj le met apart more =
    let x = get_or left i d in
    let y = get_or right j d in
    let ahead : met.place ≤ x.1 = met.ahead_left d li in
    record {
      place = x.1;
      within = a.within i d li;
      apart = apart;
      before_left = rw (take_more left i d li) (All-push (λ (run : ℕ × ℕ). run.1 ≤ x.1) (take i left) x (λ k e l. let h = met.before_left k e l in omega arith) (omega arith));
      before_right = λ k e l. let h = met.before_right k e l in omega arith;
      low = λ e l m. let h = next e l in omega arith;
      past = λ e l m. λ k f n. let h = next e l in let w = apart.within k f n in omega arith;
      ahead_left = λ e l. let h = next e l in let f = a.filled (i + 1) e l in omega arith;
      ahead_right = λ e l. rw (get_or_default right j e d lj) le;
      rows = λ k l. more k ∙ elim (cases_lt k met.place) [
        | inl lt ↦
            let low = met.low d li lj in
            ap (λ b. is_in_runs runs k || b) (sym (in_shared x y k) ∙ run_before (max x.0 y.0, min x.1 y.1) k (omega arith)) ∙ or_false (is_in_runs runs k) ∙ met.rows k lt
        | inr ge ↦
            let none : is_in_runs runs k ≡ false = runs_past runs k (λ m e n. let w = met.apart.within m e n in omega arith) in
            let mine : is_in_runs left k ≡ is_in_run x k = in_run_at len i k left d a li (λ m e n. let w = met.before_left m e n in omega arith) l in
            let theirs : is_in_runs right k ≡ is_in_run y k = in_run_at len j k right d b lj (λ m e n. let w = met.before_right m e n in omega arith) (omega arith) in
            ap (λ b. b || (is_in_run x k && is_in_run y k)) none ∙ ap (λ b. b && is_in_run y k) (sym mine) ∙ ap (λ b. is_in_runs left k && b) (sym theirs)
      ];
    }
  where
    next : (e : ℕ × ℕ) → i + 1 < length left → (get_or left i d).1 < (get_or left (i + 1) e).0
    next e l = rw (get_or_default left (i + 1) e d l) (a.apart i (i + 1) d (omega arith) l)

pub IsMet-more_left : (len : ℕ) (left right : List (ℕ × ℕ)) (i j : ℕ) (runs new : List (ℕ × ℕ)) (d : ℕ × ℕ) → AreRuns len left → AreRuns len right → i < length left → j < length right
    → (get_or left i d).1 < (get_or right j d).1 → IsMet len left right i j runs → AreRuns (min (get_or left i d).1 (get_or right j d).1) new
    → ((k : ℕ) → is_in_runs new k ≡ (is_in_runs runs k || (is_in_run (get_or left i d) k && is_in_run (get_or right j d) k))) → IsMet len left right (i + 1) j new
IsMet-more_left len left right i j runs new d a b li lj lt met apart more =
    IsMet-left len left right i j runs new d a b li lj (omega arith) met (AreRuns-longer (min (get_or left i d).1 (get_or right j d).1) (get_or left i d).1 new (omega arith) apart) more

pub IsMet-more_right : (len : ℕ) (left right : List (ℕ × ℕ)) (i j : ℕ) (runs new : List (ℕ × ℕ)) (d : ℕ × ℕ) → AreRuns len left → AreRuns len right → i < length left → j < length right
    → (get_or right j d).1 ≤ (get_or left i d).1 → IsMet len left right i j runs → AreRuns (min (get_or left i d).1 (get_or right j d).1) new
    → ((k : ℕ) → is_in_runs new k ≡ (is_in_runs runs k || (is_in_run (get_or left i d) k && is_in_run (get_or right j d) k))) → IsMet len left right i (j + 1) new
IsMet-more_right len left right i j runs new d a b li lj le met apart more =
    IsMet-swap len right left (j + 1) i new (IsMet-left len right left j i runs new d b a lj li le (IsMet-swap len left right i j runs met)
    (AreRuns-longer (min (get_or left i d).1 (get_or right j d).1) (get_or right j d).1 new (omega arith) apart)
    (λ k. more k ∙ ap (λ b. is_in_runs runs k || b) (and_comm (is_in_run (get_or left i d) k) (is_in_run (get_or right j d) k))))

-- once one list is gone through, these are the runs of both
pub IsMet-all : (len : ℕ) (left right : List (ℕ × ℕ)) (i j : ℕ) (runs : List (ℕ × ℕ)) → (length left ≤ i) ⊎ (length right ≤ j) → IsMet len left right i j runs
    → AreRuns len runs × ((k : ℕ) → is_in_runs runs k ≡ (is_in_runs left k && is_in_runs right k))
IsMet-all len left right i j runs end met = (
  AreRuns-longer met.place len runs met.within met.apart,
  λ k. elim (cases_lt k met.place) [
    | inl lt ↦ met.rows k lt
    | inr ge ↦ runs_past runs k (λ m e n. let w = met.apart.within m e n in omega arith) ∙ elim end [
      | inl all ↦
          let past : is_in_runs (take i left) k ≡ false = runs_past (take i left) k (λ m e n. let w = met.before_left m e n in omega arith) in
          sym (ap (λ b. b && is_in_runs right k) (ap (λ rs. is_in_runs rs k) (sym (take_all i left all)) ∙ past))
      | inr all ↦
          let past : is_in_runs (take j right) k ≡ false = runs_past (take j right) k (λ m e n. let w = met.before_right m e n in omega arith) in
          sym (ap (λ b. is_in_runs left k && b) (ap (λ rs. is_in_runs rs k) (sym (take_all j right all)) ∙ past) ∙ and_false (is_in_runs left k))
    ]
  ],
)

-- ---- as booleans

pub bool_at-both : (xs ys : List Bool) (k : ℕ) → length xs ≡ length ys → k < length xs → bool_at (both xs ys) k ≡ (bool_at xs k && bool_at ys k)
bool_at-both [] ys k same l = absurd (omega arith)
bool_at-both (x ∷ xs) [] k same l = absurd (omega arith)
bool_at-both (x ∷ xs) (y ∷ ys) zero same l = refl
bool_at-both (x ∷ xs) (y ∷ ys) (suc k) same l = bool_at-both xs ys k (omega arith) (omega arith)

pub length-both : (xs ys : List Bool) → length xs ≡ length ys → length (both xs ys) ≡ length xs
length-both [] ys same = refl
length-both (x ∷ xs) [] same = absurd (omega arith)
length-both (x ∷ xs) (y ∷ ys) same = ap (λ n. suc n) (length-both xs ys (omega arith))

pub both_by_runs : (xs ys m : List Bool) (left right runs : List (ℕ × ℕ)) → length xs ≡ length ys → marked (length xs) left ≡ xs → marked (length ys) right ≡ ys
    → ((k : ℕ) → is_in_runs runs k ≡ (is_in_runs left k && is_in_runs right k)) → m ≡ marked (length xs) runs → m ≡ both xs ys
both_by_runs xs ys m left right runs same mine theirs each made = made ∙ ext_get_or false (marked (length xs) runs) (both xs ys) (length-marked (length xs) runs ∙ sym (length-both xs ys same)) (λ k l.
    let small : k < length xs = omega (arith, length-marked (length xs) runs) in
    bool_at-marked (length xs) runs k small ∙ each k
    ∙ ap (λ b. b && is_in_runs right k) (sym (bool_at-marked (length xs) left k small) ∙ ap (λ bs. bool_at bs k) mine)
    ∙ ap (λ b. bool_at xs k && b) (sym (bool_at-marked (length ys) right k (omega arith)) ∙ ap (λ bs. bool_at bs k) theirs)
    ∙ sym (bool_at-both xs ys k same small))

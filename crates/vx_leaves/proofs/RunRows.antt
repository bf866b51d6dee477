-- Rows of a mask by its runs.
use Rattle.std.proofs.Common.{ℕ, zero, suc, ◌+◌, ◌-◌, ◌<◌, ◌≤◌, ◌≡◌, Bool, true, false, cond, List, length, get_or, take, inl, inr, refl, sym, ◌∙◌, ap, subst, arith}
use Rattle.std.specs.Prelude.{count_by, ◌||◌}
use Rattle.std.specs.List.{All, flat_map}
use Rattle.std.proofs.lemmas.Bool.{cases_lt}
use Rattle.std.proofs.lemmas.List.{take_all, take_more, get_or_past, get_or_default, get_or-take, length-take}
use Rattle.std.proofs.lemmas.List.Elements.{All-nil}
use Rattle.std.proofs.lemmas.List.Sums.{count_by_more_yes, count_by_more_no}
use Rattle.vx_base.specs.Bits.{bool_at}
use Rattle.vx_base.specs.MaskRuns.{is_in_run, is_in_runs, AreRuns}
use Rattle.vx_base.specs.Selections.{run_positions}
use Rattle.vx_base.specs.Trues.{trues}
use Rattle.vx_base.proofs.MaskRuns.{is_in_runs-push, run_in, run_before, run_past}
use Rattle.vx_base.proofs.RunLoops.{row_by_runs, row_before_run, row_past_runs}

-- where run i starts, past the last run the end of the rows
abbrev pub start_of : ℕ → List (ℕ × ℕ) → ℕ → ℕ
start_of len runs i = (get_or runs i (len, len)).0

module _ (mask : List Bool) (runs : List (ℕ × ℕ)) (are : AreRuns (length mask) runs) (same : flat_map run_positions runs ≡ trues mask) where
  pub start_past : (i : ℕ) → length runs ≤ i → start_of (length mask) runs i ≡ length mask
  start_past i all = ap (λ (run : ℕ × ℕ). run.0) (get_or_past runs i (length mask, length mask) all)

  pub start_within : (i : ℕ) → start_of (length mask) runs i ≤ length mask
  start_within i = elim (cases_lt i (length runs)) [
    | inl there ↦
        let filled = are.filled i (length mask, length mask) there in
        let within = are.within i (length mask, length mask) there in
        omega arith
    | inr all ↦ omega (arith, start_past i all)
  ]

  -- the rows before a run, after the runs before it
  pub gap_before : (i from k : ℕ) → All (λ run. run.1 ≤ from) (take i runs) → from ≤ k → k < start_of (length mask) runs i → bool_at mask k ≡ false
  gap_before i from k before low high =
      let past : All (λ run. run.1 ≤ k) (take i runs) = λ j e m. omega (arith, before j e m) in
      elim (cases_lt i (length runs)) [
        | inl there ↦ row_before_run mask runs i k (length mask, length mask) are same there past high
        | inr all ↦ row_past_runs mask runs k are same (omega (arith, start_past i all)) (subst (All (λ run. run.1 ≤ k)) (take_all i runs all) past)
      ]

  pub gap_first : (k : ℕ) → k < start_of (length mask) runs 0 → bool_at mask k ≡ false
  gap_first k high = gap_before 0 0 k (All-nil (λ (run : ℕ × ℕ). run.1 ≤ 0)) (omega arith) high

  -- the runs up to one end by its end
  pub ends_by : (i : ℕ) (d : ℕ × ℕ) → i < length runs → All (λ run. run.1 ≤ (get_or runs i d).1) (take (i + 1) runs)
  ends_by i d there = λ k e m.
      let small : k < i + 1 = omega (arith, length-take (i + 1) runs) in
      let inside : k < length runs = omega arith in
      rw (get_or-take (i + 1) runs k e small, get_or_default runs k e d inside) (elim (cases_lt k i) [
        | inl lt ↦
            let gap = are.apart k i d lt there in
            let filled = are.filled i d there in
            omega arith
        | inr ge ↦ let equal : k ≡ i = omega arith in rw equal (omega arith)
      ])

  pub gap_after : (i : ℕ) (d : ℕ × ℕ) (k : ℕ) → i < length runs → (get_or runs i d).1 ≤ k → k < start_of (length mask) runs (i + 1) → bool_at mask k ≡ false
  gap_after i d k there low high = gap_before (i + 1) (get_or runs i d).1 k (ends_by i d there) low high

  pub end_before : (i : ℕ) (d : ℕ × ℕ) → i < length runs → (get_or runs i d).1 ≤ start_of (length mask) runs (i + 1)
  end_before i d there = elim (cases_lt (i + 1) (length runs)) [
    | inl more ↦
        let gap = are.apart i (i + 1) (length mask, length mask) (omega arith) more in
        let equal : get_or runs i d ≡ get_or runs i (length mask, length mask) = get_or_default runs i d (length mask, length mask) there in
        omega (arith, ap (λ (run : ℕ × ℕ). run.1) equal)
    | inr all ↦ let within = are.within i d there in omega (arith, start_past (i + 1) all)
  ]

  pub start_is : (i : ℕ) (d : ℕ × ℕ) → i < length runs → start_of (length mask) runs i ≡ (get_or runs i d).0
  start_is i d there = ap (λ (run : ℕ × ℕ). run.0) (get_or_default runs i (length mask, length mask) d there)

  -- all of the runs have all the rows that are true
  pub runs_all : (i k : ℕ) → length runs ≤ i → k < length mask → is_in_runs (take i runs) k ≡ bool_at mask k
  runs_all i k all inside = ap (λ rs. is_in_runs rs k) (take_all i runs all) ∙ sym (row_by_runs mask runs k are same inside)

-- ---- counts of rows

count_falses_by : (mask : List Bool) (a n : ℕ) → a + n ≤ length mask → ((k : ℕ) → a ≤ k → k < a + n → bool_at mask k ≡ false) → count_by (λ b. b) (take (a + n) mask) ≡ count_by (λ b. b) (take a mask)
count_falses_by mask a zero within none = let here : a + 0 ≡ a = omega arith in ap (λ k. count_by (λ b. b) (take k mask)) here
count_falses_by mask a (suc n) within none =
    let next : a + suc n ≡ a + n + 1 = omega arith in
    ap (λ k. count_by (λ b. b) (take k mask)) next ∙ count_by_more_no (λ b. b) mask (a + n) false (omega arith) (none (a + n) (omega arith) (omega arith))
    ∙ count_falses_by mask a n (omega arith) (λ k low high. none k low (omega arith))

pub count_gap : (mask : List Bool) (a b : ℕ) → a ≤ b → b ≤ length mask → ((k : ℕ) → a ≤ k → k < b → bool_at mask k ≡ false) → count_by (λ b. b) (take b mask) ≡ count_by (λ b. b) (take a mask)
count_gap mask a b le within none =
    let size : a + (b - a) ≡ b = omega arith in
    ap (λ k. count_by (λ b. b) (take k mask)) (sym size) ∙ count_falses_by mask a (b - a) (omega arith) (λ k low high. none k low (omega arith))

count_trues_by : (mask : List Bool) (a n : ℕ) → a + n ≤ length mask → ((k : ℕ) → a ≤ k → k < a + n → bool_at mask k ≡ true) → count_by (λ b. b) (take (a + n) mask) ≡ count_by (λ b. b) (take a mask) + n
count_trues_by mask a zero within all = let here : a + 0 ≡ a = omega arith in omega (arith, ap (λ k. count_by (λ b. b) (take k mask)) here)
count_trues_by mask a (suc n) within all =
    let next : a + suc n ≡ a + n + 1 = omega arith in
    let one = count_by_more_yes (λ b. b) mask (a + n) false (omega arith) (all (a + n) (omega arith) (omega arith)) in
    let rest = count_trues_by mask a n (omega arith) (λ k low high. all k low (omega arith)) in
    omega (arith, ap (λ k. count_by (λ b. b) (take k mask)) next, one, rest)

pub count_run : (mask : List Bool) (a b : ℕ) → a ≤ b → b ≤ length mask → ((k : ℕ) → a ≤ k → k < b → bool_at mask k ≡ true) → count_by (λ b. b) (take b mask) ≡ count_by (λ b. b) (take a mask) + (b - a)
count_run mask a b le within all =
    let size : a + (b - a) ≡ b = omega arith in
    ap (λ k. count_by (λ b. b) (take k mask)) (sym size) ∙ count_trues_by mask a (b - a) (omega arith) (λ k low high. all k low (omega arith))

-- ---- one run more

-- a run after others
pub runs_push : (runs : List (ℕ × ℕ)) (i : ℕ) (d : ℕ × ℕ) (k : ℕ) → i < length runs → is_in_runs (take (i + 1) runs) k ≡ (is_in_runs (take i runs) k || is_in_run (get_or runs i d) k)
runs_push runs i d k there = ap (λ rs. is_in_runs rs k) (take_more runs i d there) ∙ is_in_runs-push (take i runs) (get_or runs i d) k

-- what stands at the places of the runs, and of one run more
pub put_runs : {X : Type 0} (len : ℕ) (runs : List (ℕ × ℕ)) (i : ℕ) (d : ℕ × ℕ) (k : ℕ) (x y old new : X) → i < length runs
    → old ≡ cond (is_in_runs (take i runs) k) x y → new ≡ cond (is_in_run (get_or runs i d) k) x old → new ≡ cond (is_in_runs (take (i + 1) runs) k) x y
put_runs len runs i d k x y old new there before here =
    here ∙ ap (cond (is_in_run (get_or runs i d) k) x) before ∙ either (is_in_runs (take i runs) k) (is_in_run (get_or runs i d) k) ∙ ap (λ b. cond b x y) (sym (runs_push runs i d k there))
  where
    either : (a b : Bool) → cond b x (cond a x y) ≡ cond (a || b) x y
    either true true = refl
    either true false = refl
    either false true = refl
    either false false = refl

-- one place more
pub put_row : {X : Type 0} (a row k : ℕ) (x y old new : X) → a ≤ row → old ≡ cond (is_in_run (a, row) k) x y → new ≡ cond (is_in_run (row, row + 1) k) x old → new ≡ cond (is_in_run (a, row + 1) k) x y
put_row a row k x y old new le before here = here ∙ elim (cases_lt k row) [
  | inl low ↦ ap (λ b. cond b x old) (run_before (row, row + 1) k low) ∙ before ∙ elim (cases_lt k a) [
    | inl out ↦ ap (λ b. cond b x y) (run_before (a, row) k out ∙ sym (run_before (a, row + 1) k out))
    | inr into ↦ ap (λ b. cond b x y) (run_in (a, row) k into low ∙ sym (run_in (a, row + 1) k into (omega arith)))
  ]
  | inr high ↦ elim (cases_lt k (row + 1)) [
    | inl at ↦ ap (λ b. cond b x old) (run_in (row, row + 1) k high at) ∙ sym (ap (λ b. cond b x y) (run_in (a, row + 1) k (omega arith) at))
    | inr past ↦ ap (λ b. cond b x old) (run_past (row, row + 1) k past) ∙ before ∙ ap (λ b. cond b x y) (run_past (a, row) k (omega arith) ∙ sym (run_past (a, row + 1) k past))
  ]
]

-- Rows of a mask that are alike.
use Rattle.std.proofs.Common.{ℕ, ◌+◌, ◌-◌, ◌<◌, ◌≤◌, ◌≡◌, true, false, List, ◌∷◌, ◌++◌, length, get_or, take, drop, sym, ◌∙◌, ap, inl, inr, leb, arith}
use Rattle.std.specs.Prelude.{◌||◌}
use Rattle.std.specs.List.{All}
use Rattle.std.specs.List.Sorted.{IsNonDecreasingBy, IsPartitionedBy, IsPartitionPoint}
use Rattle.std.proofs.lemmas.Bool.{cases_lt, leb-true, leb-false}
use Rattle.std.proofs.lemmas.List.{take_all, take-append-drop, drop_more, length-drop, get_or-drop, get_or-take, length-take, get_or_default}
use Rattle.std.proofs.lemmas.List.Sorted.{IsNonDecreasingBy-from_default, IsPartitionedBy-leb}
use Rattle.vx_base.specs.MaskRuns.{is_in_runs, AreRuns, IsFirstPast, IsStretch}
use Rattle.vx_base.proofs.MaskRuns.{run_in, runs_before, runs_past, or_true, is_in_runs-append}

-- the runs before a place end by where the last of them ends
pub before_last : (len at i : ℕ) (runs : List (ℕ × ℕ)) (d : ℕ × ℕ) → AreRuns len runs → 0 < at → at ≤ length runs → (get_or runs (at - 1) d).1 ≤ i → All (λ run. run.1 ≤ i) (take at runs)
before_last len at i runs d are some within end = λ k e m.
    let small : k < at = omega (arith, length-take at runs) in
    let inside : k < length runs = omega arith in
    let last = are.filled (at - 1) d (omega arith) in
    elim (cases_lt k (at - 1)) [
      | inl lt ↦ let gap = are.apart k (at - 1) d lt (omega arith) in rw (get_or-take at runs k e small, get_or_default runs k e d inside) (omega arith)
      | inr ge ↦ let same : k ≡ at - 1 = omega arith in rw (get_or-take at runs k e small, get_or_default runs k e d inside, same) end
    ]

pub last_before : (at i : ℕ) (runs : List (ℕ × ℕ)) (d : ℕ × ℕ) → 0 < at → at ≤ length runs → All (λ run. run.1 ≤ i) (take at runs) → (get_or runs (at - 1) d).1 ≤ i
last_before at i runs d some within all =
    let small : at - 1 < at = omega arith in
    rw get_or-take at (all (at - 1) d (omega (arith, length-take at runs)))

ends_rise : (len : ℕ) (runs : List (ℕ × ℕ)) → AreRuns len runs → IsNonDecreasingBy (λ (r : ℕ × ℕ). r.1) runs
ends_rise len runs are = IsNonDecreasingBy-from_default (λ (r : ℕ × ℕ). r.1) runs (0, 0) (λ i j le l. elim (cases_lt i j) [
  | inl lt ↦
      let filled = are.filled j (0, 0) l in
      let apart = are.apart i j (0, 0) lt l in
      omega arith
  | inr ge ↦ let same : i ≡ j = omega arith in rw same (omega arith)
])

pub ends_partition : (len : ℕ) (runs : List (ℕ × ℕ)) (i : ℕ) → AreRuns len runs → IsPartitionedBy (λ (r : ℕ × ℕ). leb r.1 i) runs
ends_partition len runs i are = IsPartitionedBy-leb (λ (r : ℕ × ℕ). r.1) runs i (ends_rise len runs are)

pub IsFirstPast-point : (runs : List (ℕ × ℕ)) (i n : ℕ) → n ≤ length runs → IsPartitionPoint (λ (r : ℕ × ℕ). leb r.1 i ≡ true) (λ (r : ℕ × ℕ). leb r.1 i ≡ false) runs n → IsFirstPast runs i n
IsFirstPast-point runs i n within point = record {
  bound = within;
  before = λ k e m.
      let small : k < n = omega (arith, length-take n runs) in
      rw (get_or-take n runs k e small) (leb-true (get_or runs k e).1 i (point.0 k e (omega arith) small));
  past = λ l. leb-false (get_or runs n (0, 0)).1 i (point.1 n (0, 0) (omega arith) l);
}

-- past all runs
pub IsStretch-end : (runs : List (ℕ × ℕ)) (run start end : ℕ) → run ≡ length runs → All (λ r. r.1 ≤ start) (take run runs) → IsStretch runs run start end false
IsStretch-end runs run start end last before = record {
  bound = omega arith;
  alike = λ k low high. ap (λ rs. is_in_runs rs k) (sym (take_all run runs (omega arith))) ∙ runs_past (take run runs) k (λ m e n. let w = before m e n in omega arith);
}

parts : (runs : List (ℕ × ℕ)) (run : ℕ) (d : ℕ × ℕ) → run < length runs → runs ≡ take run runs ++ (get_or runs run d ∷ drop (run + 1) runs)
parts runs run d l = sym (take-append-drop run runs) ∙ ap (λ rs. take run runs ++ rs) (drop_more runs run d l)

-- before a run
pub IsStretch-gap : (len : ℕ) (runs : List (ℕ × ℕ)) (run start end : ℕ) (d : ℕ × ℕ) → AreRuns len runs → run < length runs → All (λ r. r.1 ≤ start) (take run runs) → end ≡ (get_or runs run d).0 → IsStretch runs run start end false
IsStretch-gap len runs run start end d are l before first = record {
  bound = omega arith;
  alike = λ k low high.
      ap (λ rs. is_in_runs rs k) (sym (take-append-drop run runs)) ∙ is_in_runs-append (take run runs) (drop run runs) k
      ∙ ap (λ b. b || is_in_runs (drop run runs) k) (runs_past (take run runs) k (λ m e n. let w = before m e n in omega arith))
      ∙ runs_before (drop run runs) k (λ m e n.
      let inside : run + m < length runs = omega (arith, length-drop run runs) in
      let filled = are.filled run d l in
      rw (get_or-drop run runs m e, get_or_default runs (run + m) e d inside) (elim (cases_lt 0 m) [
        | inl some ↦ let gap = are.apart run (run + m) d (omega arith) inside in omega arith
        | inr none ↦ let same : run + m ≡ run = omega arith in rw same (omega arith)
      ]));
}

-- within a run
pub IsStretch-run : (runs : List (ℕ × ℕ)) (run start end : ℕ) (d : ℕ × ℕ) → run < length runs → start ≡ (get_or runs run d).0 → end ≡ (get_or runs run d).1 → IsStretch runs run start end true
IsStretch-run runs run start end d l first last = record {
  bound = omega arith;
  alike = λ k low high.
      let r = get_or runs run d in
      ap (λ rs. is_in_runs rs k) (parts runs run d l) ∙ is_in_runs-append (take run runs) (r ∷ drop (run + 1) runs) k
      ∙ ap (λ b. is_in_runs (take run runs) k || (b || is_in_runs (drop (run + 1) runs) k)) (run_in r k (omega arith) (omega arith)) ∙ or_true (is_in_runs (take run runs) k);
}

-- Loops over the runs of a mask. A caller has of `Mask::runs` that `AreRuns (length mask) runs` and that
-- `flat_map run_positions runs ≡ trues mask`.
use Rattle.std.proofs.Common.{ℕ, ◌+◌, ◌-◌, ◌<◌, ◌≤◌, ◌≡◌, Bool, true, false, List, ◌∷◌, ◌++◌, length, get_or, take, drop, sym, ◌∙◌, ap, arith}
use Rattle.std.specs.Prelude.{◌||◌}
use Rattle.std.specs.List.{All, flat_map, sum_by}
use Rattle.std.proofs.lemmas.List.{take-append-drop, drop_more, length-drop, get_or-drop, get_or_default, take_all}
use Rattle.std.proofs.lemmas.List.Sums.{sum_by-append}
use Rattle.vx_base.specs.Bits.{bool_at}
use Rattle.vx_base.specs.MaskRuns.{is_in_runs, AreRuns}
use Rattle.vx_base.specs.Selections.{run_positions}
use Rattle.vx_base.specs.Trues.{trues}
use Rattle.vx_base.proofs.Runs.{runs_more}
use Rattle.vx_base.proofs.MaskRuns.{run_in, run_before, runs_before, runs_past, or_true, or_false, is_in_runs-append, bool_at-marked, marked_from_trues}
use Rattle.vx_base.proofs.SharedRuns.{in_run_at}

-- a row is true where it lies in a run
pub row_by_runs : (mask : List Bool) (runs : List (ℕ × ℕ)) (k : ℕ) → AreRuns (length mask) runs → flat_map run_positions runs ≡ trues mask → k < length mask → bool_at mask k ≡ is_in_runs runs k
row_by_runs mask runs k are same l = ap (λ bs. bool_at bs k) (sym (marked_from_trues mask runs are same)) ∙ bool_at-marked (length mask) runs k l

-- a row of run i is true
pub row_of_run : (mask : List Bool) (runs : List (ℕ × ℕ)) (i k : ℕ) (d : ℕ × ℕ) → AreRuns (length mask) runs → flat_map run_positions runs ≡ trues mask → i < length runs
    → (get_or runs i d).0 ≤ k → k < (get_or runs i d).1 → bool_at mask k ≡ true
row_of_run mask runs i k d are same l low high =
    let run = get_or runs i d in
    let within = are.within i d l in
    let whole : runs ≡ take i runs ++ (run ∷ drop (i + 1) runs) = sym (take-append-drop i runs) ∙ ap (λ rs. take i runs ++ rs) (drop_more runs i d l) in
    row_by_runs mask runs k are same (omega arith) ∙ ap (λ rs. is_in_runs rs k) whole ∙ is_in_runs-append (take i runs) (run ∷ drop (i + 1) runs) k
    ∙ ap (λ b. is_in_runs (take i runs) k || (b || is_in_runs (drop (i + 1) runs) k)) (run_in run k low high) ∙ or_true (is_in_runs (take i runs) k)

-- a row between the runs before run i and that run is false
pub row_before_run : (mask : List Bool) (runs : List (ℕ × ℕ)) (i k : ℕ) (d : ℕ × ℕ) → AreRuns (length mask) runs → flat_map run_positions runs ≡ trues mask → i < length runs
    → All (λ run. run.1 ≤ k) (take i runs) → k < (get_or runs i d).0 → bool_at mask k ≡ false
row_before_run mask runs i k d are same l past before =
    let within = are.within i d l in
    let filled = are.filled i d l in
    row_by_runs mask runs k are same (omega arith) ∙ in_run_at (length mask) i k runs d are l past (omega arith) ∙ run_before (get_or runs i d) k before

-- a row past all runs is false
pub row_past_runs : (mask : List Bool) (runs : List (ℕ × ℕ)) (k : ℕ) → AreRuns (length mask) runs → flat_map run_positions runs ≡ trues mask → k < length mask
    → All (λ run. run.1 ≤ k) runs → bool_at mask k ≡ false
row_past_runs mask runs k are same l past = row_by_runs mask runs k are same l ∙ runs_past runs k past

-- a row before run i is told by the runs before it
pub before_run : (len i k : ℕ) (runs : List (ℕ × ℕ)) (d : ℕ × ℕ) → AreRuns len runs → i < length runs → k < (get_or runs i d).0 → is_in_runs runs k ≡ is_in_runs (take i runs) k
before_run len i k runs d are l before =
    let run = get_or runs i d in
    let rest = drop (i + 1) runs in
    let filled = are.filled i d l in
    let whole : runs ≡ take i runs ++ (run ∷ rest) = sym (take-append-drop i runs) ∙ ap (λ rs. take i runs ++ rs) (drop_more runs i d l) in
    let after : is_in_runs rest k ≡ false = runs_before rest k (λ m e h.
    let size : m < length runs - (i + 1) = omega (arith, length-drop (i + 1) runs) in
    let gap = are.apart i (i + 1 + m) d (omega arith) (omega arith) in
    rw (get_or-drop (i + 1) runs m e, get_or_default runs (i + 1 + m) e d (omega arith)) (omega arith)) in
    ap (λ rs. is_in_runs rs k) whole ∙ is_in_runs-append (take i runs) (run ∷ rest) k ∙ ap (λ b. is_in_runs (take i runs) k || (b || is_in_runs rest k)) (run_before run k before)
    ∙ ap (λ b. is_in_runs (take i runs) k || b) after ∙ or_false (is_in_runs (take i runs) k)

-- a sum over the rows that are true, one run more
pub sum_more : (f : ℕ → ℕ) (runs : List (ℕ × ℕ)) (i : ℕ) (d : ℕ × ℕ) → i < length runs
    → sum_by f (flat_map run_positions (take (i + 1) runs)) ≡ sum_by f (flat_map run_positions (take i runs)) + sum_by f (run_positions (get_or runs i d))
sum_more f runs i d l =
    ap (sum_by f) (runs_more run_positions runs i d l) ∙ sum_by-append f (flat_map run_positions (take i runs)) (run_positions (get_or runs i d))

-- the sum at the end
pub sum_all : (f : ℕ → ℕ) (mask : List Bool) (runs : List (ℕ × ℕ)) (i : ℕ) → flat_map run_positions runs ≡ trues mask → length runs ≤ i
    → sum_by f (flat_map run_positions (take i runs)) ≡ sum_by f (trues mask)
sum_all f mask runs i same end = ap (λ rs. sum_by f (flat_map run_positions rs)) (take_all i runs end) ∙ ap (sum_by f) same

-- Rows in runs.
use Rattle.std.proofs.Common.{ℕ, suc, ◌+◌, ◌-◌, ◌<◌, ◌≡◌, ◌++◌, List, [], ◌∷◌, length, map, get_or, None, refl, sym, ◌∙◌, ap, zero-add, arith}
use Rattle.std.specs.List.{All, flat_map, sum_by}
use Rattle.std.proofs.lemmas.List.{map-append}
use Rattle.std.proofs.lemmas.List.Concat.{length-flat_map}
use Rattle.std.proofs.lemmas.List.Elements.{All-append}
use Rattle.std.proofs.lemmas.List.FromFn.{length-range_with_len, length-map-range_with_len, get_or-range_with_len, get_or-map-range_with_len}
use Rattle.vx_base.proofs.ListParts.{map_range_same}
use Rattle.vx_base.proofs.Runs.{part_by_places}
use Rattle.vx_base.specs.Booleans.{count_fault}
use Rattle.vx_base.specs.Refusals.{or_else}
use Rattle.vx_base.specs.Rows.{null}
use Rattle.vx_base.specs.Selections.{run_positions}
use Rattle.vx_tree.specs.Tree.{Tree}
use Rattle.vx_tree.specs.Meaning.{row_at, rows, tree_len}
use Rattle.vx_tree.specs.Operations.{IsSelected, AreBelow}
use Rattle.vx_tree.specs.Faults.{take_overflow}
use Rattle.vx_tree.specs.Runs.{IsRunWithin, rows_in_run, runs_len, runs_fault}
use Rattle.vx_tree.proofs.Filtered.{rows_selected}

-- ---- positions

pub length_of_runs : (runs : List (ℕ × ℕ)) → length (flat_map run_positions runs) ≡ runs_len runs
length_of_runs runs = length-flat_map run_positions runs ∙ ap (λ f. sum_by f runs) (λ i run. length-range_with_len run.0 (run.1 - run.0) i)

below_of_run : (n : ℕ) (run : ℕ × ℕ) → IsRunWithin n run → AreBelow n (run_positions run)
below_of_run n run h = λ i d l.
    let inside : i < run.1 - run.0 = omega (arith, length-range_with_len run.0 (run.1 - run.0)) in
    omega (arith, h.0, h.1, get_or-range_with_len run.0 (run.1 - run.0) i d inside)

pub below_of_runs : (n : ℕ) (runs : List (ℕ × ℕ)) → All (IsRunWithin n) runs → AreBelow n (flat_map run_positions runs)
below_of_runs n [] h = λ i d l. absurd (omega arith)
below_of_runs n (run ∷ runs) h =
    All-append (λ k. k < n) (run_positions run) (flat_map run_positions runs) (below_of_run n run (h 0 run (omega arith))) (below_of_runs n runs (λ i d l. h (suc i) d (omega arith)))

-- ---- rows

rows_of_run : (t : Tree) (run : ℕ × ℕ) → IsRunWithin (tree_len t) run → map (row_at t) (run_positions run) ≡ rows_in_run (rows t) run
rows_of_run t run h =
    let long : length (rows t) ≡ tree_len t = length-map-range_with_len (row_at t) 0 (tree_len t) in
    sym (part_by_places (rows t) null run.0 run.1 h.0 (rw long h.1)
    ∙ map_range_same (λ k. get_or (rows t) k null) (row_at t) run.0 run.0 (run.1 - run.0) (λ j l.
    get_or-map-range_with_len (row_at t) 0 (tree_len t) (run.0 + j) (run.0 + j) null (omega (arith, h.0, h.1)) (zero-add (run.0 + j))))

rows_of_positions : (t : Tree) (runs : List (ℕ × ℕ)) → All (IsRunWithin (tree_len t)) runs → map (row_at t) (flat_map run_positions runs) ≡ flat_map (rows_in_run (rows t)) runs
rows_of_positions t [] h = refl
rows_of_positions t (run ∷ runs) h =
    map-append (row_at t) (run_positions run) (flat_map run_positions runs)
    ∙ (λ i. rows_of_run t run (h 0 run (omega arith)) i ++ rows_of_positions t runs (λ j d l. h (suc j) d (omega arith)) i)

pub rows_of_runs : (t r : Tree) (runs : List (ℕ × ℕ)) → All (IsRunWithin (tree_len t)) runs → IsSelected t (flat_map run_positions runs) r → rows r ≡ flat_map (rows_in_run (rows t)) runs
rows_of_runs t r runs h s = rows_selected t r (flat_map run_positions runs) s ∙ rows_of_positions t runs h

-- ---- faults

pub runs_fault-counted : (t : Tree) (runs : List (ℕ × ℕ)) (ps : List ℕ) → ps ≡ flat_map run_positions runs → count_fault (runs_len runs) ≡ None → take_overflow t (length ps) ≡ runs_fault t runs
runs_fault-counted t runs ps e none =
    ap (λ (qs : List ℕ). take_overflow t (length qs)) e ∙ ap (take_overflow t) (length_of_runs runs) ∙ ap (λ f. or_else f (take_overflow t (runs_len runs))) (sym none)

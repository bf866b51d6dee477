-- Rows that are taken in runs, each from its start up to its end.
use Rattle.std.specs.Prelude.{◌≤◌, ◌-◌, ℕ, List, Option, slice_range}
use Rattle.std.specs.List.{sum_by}
use Rattle.vx_base.specs.Booleans.{count_fault}
use Rattle.vx_base.specs.Refusals.{Refusal, or_else}
use Rattle.vx_base.specs.Rows.{Row}
use Rattle.vx_tree.specs.Tree.{Tree}
use Rattle.vx_tree.specs.Faults.{take_overflow}

-- a run lies within n rows
abbrev pub IsRunWithin : ℕ → ℕ × ℕ → Type 0
IsRunWithin n run = (run.0 ≤ run.1) × (run.1 ≤ n)

-- the rows of a run
abbrev pub rows_in_run : List Row → ℕ × ℕ → List Row
rows_in_run rs run = slice_range rs run.0 run.1

-- how many rows runs have in all
abbrev pub runs_len : List (ℕ × ℕ) → ℕ
runs_len runs = sum_by (λ run. run.1 - run.0) runs

-- the runs have more rows in all than can be counted, or these need more elements than can be
abbrev pub runs_fault : Tree → List (ℕ × ℕ) → Option Refusal
runs_fault t runs = or_else (count_fault (runs_len runs)) (take_overflow t (runs_len runs))

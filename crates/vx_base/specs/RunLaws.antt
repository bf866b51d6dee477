-- What holds of runs and of the masks that they mark.
use Rattle.std.specs.Prelude.{◌≡◌, ◌<◌, ℕ, Bool, List, length}
use Rattle.std.specs.List.{flat_map}
use Rattle.vx_base.specs.Bits.{bool_at}
use Rattle.vx_base.specs.MaskRuns.{is_in_runs, marked, AreRuns}
use Rattle.vx_base.specs.Selections.{run_positions}
use Rattle.vx_base.specs.Trues.{trues}

-- a row that is marked is true where it lies in a run
abbrev pub MarkedRowsLieInRuns : Type 0
MarkedRowsLieInRuns = (len : ℕ) (runs : List (ℕ × ℕ)) (k : ℕ) → k < len → bool_at (marked len runs) k ≡ is_in_runs runs k

-- two lists of runs that mark the same rows are one list
abbrev pub MaximalRunsAreOne : Type 0
MaximalRunsAreOne =
    (len : ℕ) (left right : List (ℕ × ℕ)) → AreRuns len left → AreRuns len right → marked len left ≡ marked len right → left ≡ right

-- runs whose positions are those at which booleans are true mark these booleans
abbrev pub RunsOfTruesMark : Type 0
RunsOfTruesMark =
    (bits : List Bool) (runs : List (ℕ × ℕ)) → AreRuns (length bits) runs → flat_map run_positions runs ≡ trues bits
    → marked (length bits) runs ≡ bits

use Rattle.std.proofs.Common.{◌≡◌, ◌≤◌, ◌+◌, ℕ, map, take}
use Rattle.std.specs.Prelude.{◌||◌}
use Rattle.std.specs.List.{All}
use Rattle.vx_base.specs.MaskRuns.{is_in_runs, AreRuns}
use Rattle.vx_base.proofs.MaskRuns.{shifted}
use Rattle.vx_base.proofs.mask.Mask.append_to.Given as goal

abbrev pub invariant-loop-run : goal.invariant-loop-run
invariant-loop-run l =
    record {
      apart : (low : ℕ) → All (λ run. run.1 ≤ low) (take l.run-index l.run-items) → AreRuns (l.at + low) l.runs.items;
      rows : (k : ℕ) → is_in_runs l.runs.items k ≡ (is_in_runs l.fn.runs.items k || is_in_runs (map (shifted l.at) (take l.run-index l.run-items)) k);
    }

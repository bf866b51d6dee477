use Rattle.std.proofs.Common.{◌≡◌, ◌≤◌, ℕ, take}
use Rattle.std.specs.Prelude.{◌&&◌}
use Rattle.std.specs.List.{All}
use Rattle.vx_base.specs.Bits.{bool_at}
use Rattle.vx_base.specs.MaskRuns.{is_in_runs, AreRuns}
use Rattle.vx_base.proofs.bit_buffer.BitBuffer.true_runs_within.Given as goal

abbrev pub invariant-loop-run : goal.invariant-loop-run
invariant-loop-run l = record {
  apart : (low : ℕ) → All (λ run. run.1 ≤ low) (take l.run-index l.within) → AreRuns low l.runs.items;
  rows : (k : ℕ) → is_in_runs l.runs.items k ≡ (bool_at l.self.bits k && is_in_runs (take l.run-index l.within) k);
}

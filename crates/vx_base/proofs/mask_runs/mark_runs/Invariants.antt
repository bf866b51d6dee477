use Rattle.std.proofs.Common.{◌≡◌, ℕ, take}
use Rattle.std.specs.Prelude.{◌||◌}
use Rattle.vx_base.specs.Bits.{bit_of}
use Rattle.vx_base.specs.MaskRuns.{is_in_runs}
use Rattle.vx_base.proofs.mask_runs.mark_runs.Given as goal

abbrev pub invariant-loop-run : goal.invariant-loop-run
invariant-loop-run l = (k : ℕ) → bit_of l.out k ≡ (bit_of l.fn.out k || is_in_runs (take l.run-index l.runs) k)

use Rattle.std.proofs.Common.{ℕ, ◌<◌}
use Rattle.vx_uses.specs.Packing.{HasRowsAt}
use Rattle.vx_uses.proofs.packing.place_of_rows.Given as goal

abbrev pub invariant-loop-place : goal.invariant-loop-place
invariant-loop-place l = (i : ℕ) → i < l.place → ¬ HasRowsAt l.columns l.column i

use Rattle.std.proofs.Common.{◌≡◌}
use Rattle.vx_run.proofs.show.show_native.Given as goal

abbrev pub invariant-loop-row : goal.invariant-loop-row
invariant-loop-row g l = l.valid ≡ l.mask

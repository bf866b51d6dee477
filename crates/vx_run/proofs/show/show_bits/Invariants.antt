use Rattle.std.proofs.Common.{◌≡◌}
use Rattle.vx_run.proofs.show.show_bits.Given as goal

abbrev pub invariant-loop-row : goal.invariant-loop-row
invariant-loop-row l = l.valid ≡ l.mask

use Rattle.std.proofs.Common.{◌≤◌}
use Rattle.vx_pack.proofs.run_pieces.typed_run_count.Given as goal

abbrev pub invariant-loop-i : goal.invariant-loop-i
invariant-loop-i g l = l.runs ≤ l.i

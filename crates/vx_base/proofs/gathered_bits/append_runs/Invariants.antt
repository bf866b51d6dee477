use Rattle.std.proofs.Common.{◌≡◌, take, map}
use Rattle.std.specs.List.{flat_map}
use Rattle.vx_base.specs.Selections.{run_positions}
use Rattle.vx_base.specs.Bits.{bool_at}
use Rattle.vx_base.proofs.gathered_bits.append_runs.Given as goal

abbrev pub invariant-loop-run : goal.invariant-loop-run
invariant-loop-run l = l.picked ≡ map (bool_at l.bits.bits) (flat_map run_positions (take l.run-index l.runs))

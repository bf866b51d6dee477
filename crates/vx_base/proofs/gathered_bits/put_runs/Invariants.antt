use Rattle.std.proofs.Common.{◌≡◌, length, take, map}
use Rattle.std.specs.List.{flat_map}
use Rattle.vx_base.specs.Bits.{unpacked, bool_at}
use Rattle.vx_base.specs.Selections.{run_positions}
use Rattle.vx_base.proofs.gathered_bits.put_runs.Given as goal

abbrev pub invariant-loop-run : goal.invariant-loop-run
invariant-loop-run l = (l.at ≡ length (flat_map run_positions (take l.run-index l.runs)))
    × (unpacked l.out 0 l.at ≡ map (bool_at l.bits.bits) (flat_map run_positions (take l.run-index l.runs)))

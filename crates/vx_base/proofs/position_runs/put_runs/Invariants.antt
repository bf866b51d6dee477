use Rattle.std.proofs.Common.{◌≡◌, length, take}
use Rattle.std.specs.List.{flat_map}
use Rattle.vx_base.specs.Selections.{run_positions}
use Rattle.vx_base.proofs.position_runs.put_runs.Given as goal

abbrev pub invariant-loop-run : goal.invariant-loop-run
invariant-loop-run l =
    record {
      len : length l.out ≡ length l.fn.out;
      place : l.at ≡ length (flat_map run_positions (take l.run-index l.runs));
      put : take l.at l.out ≡ flat_map run_positions (take l.run-index l.runs);
    }

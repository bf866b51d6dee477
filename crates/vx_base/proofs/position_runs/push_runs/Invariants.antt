use Rattle.std.proofs.Common.{◌≡◌, take, vec_capacity}
use Rattle.std.specs.List.{flat_map}
use Rattle.vx_base.specs.Selections.{run_positions}
use Rattle.vx_base.proofs.position_runs.push_runs.Given as goal

abbrev pub invariant-loop-run : goal.invariant-loop-run
invariant-loop-run l =
    record {
      pushed : l.positions.items ≡ flat_map run_positions (take l.run-index l.runs);
      capacity : vec_capacity l.positions ≡ vec_capacity l.fn.positions;
    }

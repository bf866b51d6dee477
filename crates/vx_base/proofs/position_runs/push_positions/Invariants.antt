use Rattle.std.proofs.Common.{◌≡◌, ◌+◌, ◌++◌, ◌-◌, ◌≤◌, vec_len, vec_capacity}
use Rattle.std.specs.List.{range_with_len}
use Rattle.vx_base.proofs.position_runs.push_positions.Given as goal

abbrev pub invariant-loop-position : goal.invariant-loop-position
invariant-loop-position l =
    record {
      items : l.positions.items ≡ l.fn.positions.items ++ range_with_len l.start (l.position - l.start);
      room : vec_len l.positions + (l.end - l.position) ≤ vec_capacity l.positions;
      capacity : vec_capacity l.positions ≡ vec_capacity l.fn.positions;
    }

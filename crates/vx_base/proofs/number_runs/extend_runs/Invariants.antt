use Rattle.std.proofs.Common.{◌≡◌, ◌≤◌, ◌++◌, length, take}
use Rattle.std.specs.List.{flat_map}
use Rattle.vx_base.specs.Selections.{run_positions, bytes_of_position, held}
use Rattle.vx_base.proofs.number_runs.extend_runs.Given as goal

abbrev pub invariant-loop-run : goal.invariant-loop-run
invariant-loop-run g l = (length l.block ≡ 520)
    × ((l.filled ≤ 512)
    × (held l.picked.items (take l.filled l.block) ≡ l.fn.picked.items ++ flat_map (bytes_of_position g.row.WIDTH l.bytes) (flat_map run_positions (take l.run-index l.runs))))

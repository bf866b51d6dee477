use Rattle.std.proofs.Common.{◌≡◌, ◌<◌, length, take}
use Rattle.std.specs.List.{All, flat_map}
use Rattle.vx_base.specs.Selections.{run_positions}
use Rattle.vx_base_tests.proofs.base.gathered.count_rows.Given as goal

abbrev pub invariant-loop-run : goal.invariant-loop-run
invariant-loop-run l = (l.count ≡ length (flat_map run_positions (take l.run-index l.runs)))
    × All (λ k. k < l.rows) (flat_map run_positions (take l.run-index l.runs))

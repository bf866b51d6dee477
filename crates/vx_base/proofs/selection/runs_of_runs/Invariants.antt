use Rattle.std.proofs.Common.{◌≡◌, take}
use Rattle.std.specs.List.{flat_map}
use Rattle.vx_base.specs.Selections.{run_positions, list_positions}
use Rattle.vx_base.proofs.selection.runs_of_runs.Given as goal

abbrev pub invariant-loop-list : goal.invariant-loop-list
invariant-loop-list l = flat_map run_positions l.runs.items ≡ flat_map (list_positions l.size) (flat_map run_positions (take l.list-index l.lists))

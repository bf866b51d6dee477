use Rattle.std.proofs.Common.{◌≡◌, map, take}
use Rattle.std.specs.List.{flat_map}
use Rattle.vx_base.specs.Selections.{run_positions, item_of_position}
use Rattle.vx_base.proofs.gathered_items.ItemsGather.of_runs.Given as goal

abbrev pub invariant-loop-run : goal.invariant-loop-run
invariant-loop-run g l = (d : g.row.T.Denot) → l.picked.items ≡ map (item_of_position d l.self.items.now) (flat_map run_positions (take l.run-index l.runs))

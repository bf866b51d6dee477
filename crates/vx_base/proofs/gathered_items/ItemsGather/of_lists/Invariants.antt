use Rattle.std.proofs.Common.{◌≡◌, map, take}
use Rattle.std.specs.List.{flat_map}
use Rattle.vx_base.specs.Selections.{list_positions, item_of_position}
use Rattle.vx_base.proofs.gathered_items.ItemsGather.of_lists.Given as goal

abbrev pub invariant-loop-i : goal.invariant-loop-i
invariant-loop-i g l = (d : g.row.T.Denot) → l.picked.items ≡ map (item_of_position d l.self.items.now) (flat_map (list_positions l.size) (take l.i (g.P.Places.positions l.lists)))

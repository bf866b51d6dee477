use Rattle.std.proofs.Common.{◌≡◌, map, take}
use Rattle.vx_base.specs.Selections.{item_of_position}
use Rattle.vx_base.proofs.gathered_items.put_items_at.Given as goal

abbrev pub invariant-loop-i : goal.invariant-loop-i
invariant-loop-i g l = (d : g.row.T.Denot) → take l.i l.out ≡ map (item_of_position d l.items) (take l.i (g.P.Places.positions l.places))

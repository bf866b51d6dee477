use Rattle.std.proofs.Common.{◌≡◌, take, map}
use Rattle.std.specs.List.{flat_map}
use Rattle.vx_base.specs.Selections.{list_positions}
use Rattle.vx_base.specs.Bits.{bool_at}
use Rattle.vx_base.proofs.gathered_bits.append_lists.Given as goal

abbrev pub invariant-loop-i : goal.invariant-loop-i
invariant-loop-i g l = l.picked ≡ map (bool_at l.bits.bits) (flat_map (list_positions l.size) (take l.i (g.P.Places.positions l.lists)))

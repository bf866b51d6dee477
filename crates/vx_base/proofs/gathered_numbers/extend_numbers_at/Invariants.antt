use Rattle.std.proofs.Common.{◌≡◌, ◌++◌, take}
use Rattle.std.specs.List.{flat_map}
use Rattle.vx_base.specs.Selections.{bytes_of_position}
use Rattle.vx_base.proofs.gathered_numbers.extend_numbers_at.Given as goal

abbrev pub invariant-loop-i : goal.invariant-loop-i
invariant-loop-i g l = l.picked.items ≡ l.fn.picked.items ++ flat_map (bytes_of_position l.width l.bytes) (take l.i (g.P.Places.positions l.places))

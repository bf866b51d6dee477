use Rattle.std.proofs.Common.{◌≡◌, ◌*◌, ◌++◌, take}
use Rattle.std.specs.List.{flat_map}
use Rattle.vx_base.specs.Selections.{bytes_of_position}
use Rattle.vx_base.proofs.gathered_numbers.extend_at.Given as goal

abbrev pub invariant-loop-at : goal.invariant-loop-at
invariant-loop-at g l = l.picked.items ≡ l.fn.picked.items ++ flat_map (bytes_of_position g.row.WIDTH l.bytes) (take (l.at * 512) (g.P.Places.positions l.places))

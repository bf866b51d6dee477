use Rattle.std.proofs.Common.{◌≡◌, take, drop, map}
use Rattle.vx_base.specs.Selections.{bytes_of_position}
use Rattle.vx_base.proofs.gathered_numbers.read_numbers_at.Given as goal

abbrev pub invariant-loop-i : goal.invariant-loop-i
invariant-loop-i g l = take l.i l.out ≡ map (bytes_of_position g.row.WIDTH l.bytes) (take l.i (drop l.start (g.P.Places.positions l.places)))

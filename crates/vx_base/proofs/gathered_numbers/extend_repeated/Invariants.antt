use Rattle.std.proofs.Common.{◌≡◌, ◌++◌, ◌*◌, replicate}
use Rattle.std.specs.List.{flat_map}
use Rattle.vx_base.specs.Selections.{bytes_of_position}
use Rattle.vx_base.proofs.gathered_numbers.extend_repeated.Given as goal

abbrev pub invariant-loop : goal.invariant-loop
invariant-loop g l = l.picked.items ≡ l.fn.picked.items ++ flat_map (bytes_of_position g.row.WIDTH l.bytes) (replicate (l.counter * 128) l.position)

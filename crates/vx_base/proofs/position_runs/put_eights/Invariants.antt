use Rattle.std.proofs.Common.{◌≡◌, ◌+◌, ◌*◌, ◌++◌, length, take, min}
use Rattle.std.specs.List.{range_with_len}
use Rattle.vx_base.proofs.position_runs.put_eights.Given as goal

abbrev pub invariant-loop-j : goal.invariant-loop-j
invariant-loop-j l = (length l.out ≡ length l.fn.out) × (take (l.at + min (8 * l.j) l.count) l.out ≡ take l.at l.fn.out ++ range_with_len l.start (min (8 * l.j) l.count))

use Rattle.std.proofs.Common.{◌≡◌, ◌+◌, ◌++◌, length, take}
use Rattle.std.specs.List.{range_with_len}
use Rattle.vx_base.proofs.position_runs.put_each.Given as goal

abbrev pub invariant-loop-i : goal.invariant-loop-i
invariant-loop-i l = (length l.out ≡ length l.fn.out) × (take (l.at + l.i) l.out ≡ take l.at l.fn.out ++ range_with_len l.start l.i)

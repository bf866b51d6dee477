use Rattle.std.proofs.Common.{◌≡◌, ◌≤◌, ◌+◌, sum, take}
use Rattle.vx_pack.specs.CountBytes.{counts_of}
use Rattle.vx_pack.proofs.count_bytes.total_with_typed.Given as goal

abbrev pub invariant-loop-i : goal.invariant-loop-i
invariant-loop-i g l = (l.total ≡ l.before + sum (take l.i (counts_of g.T.NativePType.PTYPE l.counts))) × (l.total ≤ l.limit)

use Rattle.std.proofs.Common.{◌≡◌, ◌+◌, drop}
use Rattle.vx_canonical.specs.Joined.{joined_len}
use Rattle.vx_canonical.proofs.join.joined_len.Given as goal

abbrev pub invariant-loop-array : goal.invariant-loop-array
invariant-loop-array l = l.total + joined_len (drop l.array-index l.arrays) ≡ joined_len l.arrays

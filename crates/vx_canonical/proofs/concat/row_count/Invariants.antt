use Rattle.std.proofs.Common.{◌≡◌, ◌+◌, ◌<◌, ◌^◌, drop}
use Rattle.vx_canonical.specs.Joined.{joined_len}
use Rattle.vx_canonical.proofs.concat.row_count.Given as goal

abbrev pub invariant-loop-array : goal.invariant-loop-array
invariant-loop-array l = (l.count + joined_len (drop l.array-index l.arrays) ≡ joined_len l.arrays) × (l.count < 2 ^ 64)

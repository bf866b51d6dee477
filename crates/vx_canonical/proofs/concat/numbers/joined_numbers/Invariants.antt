use Rattle.std.proofs.Common.{take}
use Rattle.vx_canonical.specs.Joined.{joined_len, joined_row}
use Rattle.vx_canonical.specs.JoinedNumbers.{HoldNumbers}
use Rattle.vx_canonical.proofs.concat.numbers.joined_numbers.Given as goal

abbrev pub invariant-loop-array : goal.invariant-loop-array
invariant-loop-array l = HoldNumbers l.ptype (joined_len (take l.array-index l.arrays)) (joined_row (take l.array-index l.arrays)) l.joined.items

use Rattle.std.proofs.Common.{◌≡◌, take}
use Rattle.std.specs.List.{flat_map}
use Rattle.vx_canonical.specs.Joined.{bits_in}
use Rattle.vx_canonical.proofs.layouts.bool.joined_bits.Given as goal

abbrev pub invariant-loop-array : goal.invariant-loop-array
invariant-loop-array l = l.joined ≡ flat_map bits_in (take l.array-index l.arrays)

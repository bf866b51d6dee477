use Rattle.std.proofs.Common.{◌≡◌, take}
use Rattle.std.specs.List.{flat_map}
use Rattle.vx_canonical.specs.Joined.{bytes_in}
use Rattle.vx_canonical.proofs.layouts.primitive.joined_bytes.Given as goal

abbrev pub invariant-loop-array : goal.invariant-loop-array
invariant-loop-array l = l.joined.items ≡ flat_map bytes_in (take l.array-index l.arrays)

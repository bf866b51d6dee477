use Rattle.std.proofs.Common.{◌≡◌, map, take}
use Rattle.vx_canonical.specs.Joined.{elements_in}
use Rattle.vx_canonical.proofs.layouts.fixed_size_list.elements_of.Given as goal

abbrev pub invariant-loop-array : goal.invariant-loop-array
invariant-loop-array l = l.list.items ≡ map elements_in (take l.array-index l.arrays)

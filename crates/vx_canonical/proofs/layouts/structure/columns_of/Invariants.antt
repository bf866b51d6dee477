use Rattle.std.proofs.Common.{◌≡◌, map, take}
use Rattle.vx_canonical.specs.Joined.{column_of}
use Rattle.vx_canonical.proofs.layouts.structure.columns_of.Given as goal

abbrev pub invariant-loop-array : goal.invariant-loop-array
invariant-loop-array l = l.list.items ≡ map (column_of l.place) (take l.array-index l.arrays)

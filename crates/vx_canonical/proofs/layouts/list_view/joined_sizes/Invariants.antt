use Rattle.std.proofs.Common.{◌≡◌, ◌%◌, length, take, map}
use Rattle.std.specs.Prelude.{pos}
use Rattle.vx_base.specs.Integers.{numbers}
use Rattle.vx_base.specs.declared.ptypes.PType.TheVariants.{U64}
use Rattle.vx_canonical.specs.Joined.{joined_sizes}
use Rattle.vx_canonical.proofs.layouts.list_view.joined_sizes.Given as goal

abbrev pub invariant-loop-array : goal.invariant-loop-array
invariant-loop-array l = (numbers U64 l.joined.items ≡ map pos (joined_sizes (take l.array-index l.arrays))) × (length l.joined.items % 8 ≡ 0)

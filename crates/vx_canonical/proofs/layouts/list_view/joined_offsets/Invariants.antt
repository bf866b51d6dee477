use Rattle.std.proofs.Common.{◌≡◌, ◌+◌, ◌%◌, ◌++◌, length, drop, map}
use Rattle.std.specs.Prelude.{pos}
use Rattle.vx_base.specs.Integers.{numbers}
use Rattle.vx_base.specs.declared.ptypes.PType.TheVariants.{U64}
use Rattle.vx_canonical.specs.Joined.{joined_len, elements_in, offsets_from}
use Rattle.vx_canonical.proofs.layouts.list_view.joined_offsets.Given as goal

abbrev pub invariant-loop-array : goal.invariant-loop-array
invariant-loop-array l =
    (numbers U64 l.joined.items ++ map pos (offsets_from l.base (drop l.array-index l.arrays)) ≡ map pos (offsets_from 0 l.arrays))
    × (l.base + joined_len (map elements_in (drop l.array-index l.arrays)) ≡ joined_len (map elements_in l.arrays))
    × (length l.joined.items % 8 ≡ 0)

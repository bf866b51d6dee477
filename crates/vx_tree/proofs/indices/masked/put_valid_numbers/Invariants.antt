use Rattle.std.proofs.Common.{◌≡◌, ◌*◌, take, map}
use Rattle.std.specs.List.{range_with_len}
use Rattle.vx_base.specs.Integers.{numbers, byte_width}
use Rattle.vx_tree.specs.Named.{number_under}
use Rattle.vx_tree.proofs.indices.masked.put_valid_numbers.Given as goal

abbrev pub invariant-loop-row : goal.invariant-loop-row
invariant-loop-row g l = numbers g.T.NativePType.PTYPE (take (l.row * byte_width g.T.NativePType.PTYPE) l.out)
    ≡ map (number_under (numbers g.T.NativePType.PTYPE l.bytes) l.valid.bits) (range_with_len 0 l.row)

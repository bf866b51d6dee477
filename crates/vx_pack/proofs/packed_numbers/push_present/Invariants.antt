use Rattle.std.proofs.Common.{◌≡◌, ◌++◌}
use Rattle.std.specs.List.{flat_map, range_with_len}
use Rattle.vx_pack.specs.StoredNumbers.{stored_bytes}
use Rattle.vx_pack.proofs.packed_numbers.push_present.Given as goal

abbrev pub invariant-loop-i : goal.invariant-loop-i
invariant-loop-i g l =
    l.bytes.items ≡ l.initial.bytes.items ++ flat_map (stored_bytes g.row.WIDTH l.stored) (range_with_len 0 l.i)

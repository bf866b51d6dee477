use Rattle.std.proofs.Common.{◌≡◌, ◌≤◌, ◌*◌, length, take, map}
use Rattle.vx_base.specs.Integers.{numbers, byte_width}
use Rattle.vx_leaves.proofs.number_bytes.collect_numbers.Given as goal

abbrev pub invariant-loop-item : goal.invariant-loop-item
invariant-loop-item g l = record {
  room : l.row * byte_width g.T.NativePType.PTYPE ≤ length l.bytes.items;
  count : l.row ≡ length l.yielded;
  numbers : numbers g.T.NativePType.PTYPE (take (l.row * byte_width g.T.NativePType.PTYPE) l.bytes.items) ≡ map g.T.Number.value l.yielded;
}

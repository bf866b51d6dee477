use Rattle.std.proofs.Common.{◌≡◌, ◌≤◌, ◌*◌, length, take, map}
use Rattle.std.specs.Option.{is_some}
use Rattle.vx_base.specs.Integers.{numbers, byte_width}
use Rattle.vx_leaves.specs.Leaves.{number_or_zero}
use Rattle.vx_leaves.proofs.number_bytes.collect_optional_numbers.Given as goal

abbrev pub invariant-loop-item : goal.invariant-loop-item
invariant-loop-item g l = record {
  room : l.row * byte_width g.T.NativePType.PTYPE ≤ length l.bytes.items;
  count : l.row ≡ length l.yielded;
  numbers : numbers g.T.NativePType.PTYPE (take (l.row * byte_width g.T.NativePType.PTYPE) l.bytes.items) ≡ map (number_or_zero g.T.Number.value) l.yielded;
  present : l.present.items ≡ map is_some l.yielded;
}

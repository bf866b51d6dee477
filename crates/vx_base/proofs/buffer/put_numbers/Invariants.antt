use Rattle.std.proofs.Common.{◌≡◌, ◌*◌, take, map}
use Rattle.vx_base.specs.Integers.{numbers, byte_width}
use Rattle.vx_base.proofs.buffer.put_numbers.Given as goal

abbrev pub invariant-loop-i : goal.invariant-loop-i
invariant-loop-i g l = numbers g.T.NativePType.PTYPE (take (l.i * byte_width g.T.NativePType.PTYPE) l.out) ≡ map g.T.Number.value (take l.i l.items)

use Rattle.std.proofs.Common.{◌≡◌, ◌*◌, take, map}
use Rattle.vx_base.specs.Integers.{numbers, byte_width}
use Rattle.vx_canonical.specs.PlainValues.{number_or_zero}
use Rattle.vx_canonical.proofs.canonical_values.put_numbers.Given as goal

abbrev pub invariant-loop-i : goal.invariant-loop-i
invariant-loop-i l = numbers l.ptype (take (l.i * byte_width l.ptype) l.out) ≡ map number_or_zero (take l.i l.values)

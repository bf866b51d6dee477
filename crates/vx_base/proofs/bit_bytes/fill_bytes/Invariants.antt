use Rattle.std.proofs.Common.{◌*◌}
use Rattle.vx_base.specs.Bits.{Filled}
use Rattle.vx_base.proofs.bit_bytes.fill_bytes.Given as goal

abbrev pub invariant-loop-j : goal.invariant-loop-j
invariant-loop-j l = Filled l.initial.bytes l.bytes (8 * l.fn.first) (8 * l.j) l.fn.value

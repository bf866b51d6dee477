use Rattle.std.proofs.Common.{◌≡◌, ◌*◌, take, map}
use Rattle.std.specs.Prelude.{pos}
use Rattle.vx_base.specs.Integers.{numbers, byte_width}
use Rattle.vx_base.proofs.counts.put_counts.Given as goal

abbrev pub invariant-loop-i : goal.invariant-loop-i
invariant-loop-i g l = numbers g.T.NativePType.PTYPE (take (l.i * byte_width g.T.NativePType.PTYPE) l.out) ≡ map pos (take l.i l.counts)

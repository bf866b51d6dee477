use Rattle.std.proofs.Common.{◌≡◌, ◌*◌, ◌+◌, take, map}
use Rattle.std.specs.Prelude.{pos, unsigned_abs}
use Rattle.vx_base.specs.Integers.{numbers, byte_width}
use Rattle.vx_base.specs.declared.ptypes.PType.TheVariants.{U64}
use Rattle.vx_canonical.proofs.layouts.list_view.put_sums.Given as goal

abbrev pub invariant-loop-i : goal.invariant-loop-i
invariant-loop-i g l = numbers U64 (take (l.i * byte_width U64) l.out) ≡ map (λ z. pos (l.base + unsigned_abs z)) (take l.i (numbers g.T.NativePType.PTYPE l.bytes))

use Rattle.std.proofs.Common.{refl}
use Rattle.vx_base.specs.Integers.{numbers}
use Rattle.vx_canonical_tests.proofs.nested.layouts.shorts.Goals as goal

pub from_parts-requires : goal.from_parts-requires
unfolding numbers
from_parts-requires c = rw (c.in_ok-bools.ensures, c.in_ok-bytes.ensures) (record { len = refl; kind = refl }, refl)

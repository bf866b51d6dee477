use Rattle.std.proofs.Common.{refl, arith}
use Rattle.vx_base.proofs.NumberLists.{numbers_start}
use Rattle.vx_leaves.proofs.number_bytes.collect_optional_numbers.Goals as goal

pub loop-item-init : goal.loop-item-init
loop-item-init g c = record { room = omega arith; count = refl; numbers = numbers_start g.T.NativePType.PTYPE c.new-bytes.result.items; present = c.new-present.ensures.items }

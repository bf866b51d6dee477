use Rattle.std.proofs.Common.{arith}
use Rattle.vx_pack.proofs.ReadCounts.{numbers_few}
use Rattle.vx_pack.proofs.lists_anywhere.same_typed_lists.Goals as goal

pub overflow_add-first : goal.overflow_add-first
overflow_add-first g c =
    omega (arith, c.requires.within, c.loop-i-test.true, numbers_few g.S.NativePType.PTYPE c.args.sizes.now)

pub overflow_add-first-in-loop-i : goal.overflow_add-first-in-loop-i
overflow_add-first-in-loop-i g c =
    omega (arith, c.requires.within, c.loop-i-test.true, numbers_few g.S.NativePType.PTYPE c.args.sizes.now)

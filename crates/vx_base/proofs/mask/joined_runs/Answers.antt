use Rattle.std.proofs.Common.{length, ap, arith}
use Rattle.vx_base.proofs.Joined.{joined_within}
use Rattle.vx_base.proofs.mask.joined_runs.Goals as goal

pub append_to-requires-clause-runs : goal.append_to-requires-clause-runs
append_to-requires-clause-runs c = c.loop-mask.invariant.apart

pub append_to-requires-clause-fits : goal.append_to-requires-clause-fits
append_to-requires-clause-fits c =
    let within = joined_within c.args.masks.now c.loop-mask.mask-index c.mask-item.result c.loop-mask-test.true in
    omega (arith, within, ap length c.mask-item.is)

pub overflow_add-len : goal.overflow_add-len
overflow_add-len c =
    let within = joined_within c.args.masks.now c.loop-mask.mask-index c.mask-item.result c.loop-mask-test.true in
    omega (arith, within, ap length c.mask-item.is)

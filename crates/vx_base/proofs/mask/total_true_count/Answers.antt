use Rattle.std.proofs.Common.{count_by, ap, arith}
use Rattle.vx_base.proofs.Joined.{trues_within}
use Rattle.vx_base.proofs.mask.total_true_count.Goals as goal

pub overflow_add-total : goal.overflow_add-total
overflow_add-total c =
    let within = trues_within c.args.masks.now c.loop-mask.mask-index c.mask-item.result c.loop-mask-test.true in
    omega (arith, within, ap (count_by (λ b. b)) c.mask-item.is)

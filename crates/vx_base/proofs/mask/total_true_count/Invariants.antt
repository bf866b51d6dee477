use Rattle.std.proofs.Common.{◌≡◌, take, count_by}
use Rattle.vx_base.specs.Booleans.{joined}
use Rattle.vx_base.proofs.mask.total_true_count.Given as goal

abbrev pub invariant-loop-mask : goal.invariant-loop-mask
invariant-loop-mask l = l.total ≡ count_by (λ b. b) (joined (take l.mask-index l.masks))

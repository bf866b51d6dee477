use Rattle.std.proofs.Common.{◌≡◌, ◌<◌, ◌^◌, length, take}
use Rattle.vx_base.specs.Booleans.{joined}
use Rattle.vx_base.proofs.mask.total_len.Given as goal

abbrev pub invariant-loop-mask : goal.invariant-loop-mask
invariant-loop-mask l = (l.total ≡ length (joined (take l.mask-index l.masks))) × (l.total < 2 ^ 64)

use Rattle.std.proofs.Common.{◌≡◌, take}
use Rattle.vx_canonical.specs.Joined.{joined_buffers}
use Rattle.vx_canonical.proofs.layouts.var_bin_view.joined_buffers.Given as goal

abbrev pub invariant-loop-array : goal.invariant-loop-array
invariant-loop-array l = l.joined.items ≡ joined_buffers (take l.array-index l.arrays)

use Rattle.std.proofs.Common.{◌≡◌, ◌+◌, length, drop}
use Rattle.vx_canonical.specs.Joined.{joined_buffers}
use Rattle.vx_canonical.proofs.layouts.var_bin_view.buffer_count.Given as goal

abbrev pub invariant-loop-array : goal.invariant-loop-array
invariant-loop-array l = l.count + length (joined_buffers (drop l.array-index l.arrays)) ≡ length (joined_buffers l.arrays)

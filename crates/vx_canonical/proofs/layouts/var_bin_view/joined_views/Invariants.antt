use Rattle.std.proofs.Common.{◌≡◌, ◌+◌, ◌++◌, length, drop}
use Rattle.vx_canonical.specs.Joined.{joined_buffers, views_from}
use Rattle.vx_canonical.proofs.layouts.var_bin_view.joined_views.Given as goal

abbrev pub invariant-loop-array : goal.invariant-loop-array
invariant-loop-array l =
    (l.joined.items ++ views_from l.base (drop l.array-index l.arrays) ≡ views_from 0 l.arrays)
    × (l.base + length (joined_buffers (drop l.array-index l.arrays)) ≡ length (joined_buffers l.arrays))

use Rattle.std.proofs.Common.{◌≡◌, ◌≤◌, ◌+◌, ◌-◌, ◌++◌, length, map, slice_index, take, vec_len, vec_capacity}
use Rattle.vx_canonical.specs.Joined.{shifted_view}
use Rattle.vx_canonical.proofs.layouts.var_bin_view.add_views.Given as goal

abbrev pub invariant-loop-view : goal.invariant-loop-view
invariant-loop-view l =
    (l.out.items ≡ l.fn.out.items ++ map (shifted_view (slice_index l.steps 0)) (take l.view-index l.views))
    × (vec_len l.out + (length l.views - l.view-index) ≤ vec_capacity l.out)

use Rattle.std.proofs.Common.{ℕ, ◌≡◌, ◌<◌, [], length}
use Rattle.std.specs.Prelude.{slice_index_or, if◌then◌else◌}
use Rattle.vx_base.specs.MaskRuns.{is_in_run}
use Rattle.vx_views.specs.Views.{view_of}
use Rattle.vx_tree.proofs.layouts.var_bin_view.empty_range.Given as goal

abbrev pub invariant-loop-k : goal.invariant-loop-k
invariant-loop-k l = (length l.views ≡ length l.fn.views)
    × ((j : ℕ) → j < length l.fn.views → slice_index_or l.views j [] ≡ (if is_in_run (l.start, l.k) j then view_of [] 0 0 else slice_index_or l.fn.views j []))

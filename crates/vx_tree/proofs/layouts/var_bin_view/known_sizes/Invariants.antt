use Rattle.std.proofs.Common.{ℕ, ◌<◌, []}
use Rattle.std.specs.Prelude.{slice_index_or}
use Rattle.vx_views.specs.Views.{IsView}
use Rattle.vx_tree.proofs.layouts.var_bin_view.known_sizes.Given as goal

abbrev pub invariant-loop-view : goal.invariant-loop-view
invariant-loop-view l = (i : ℕ) → i < l.view-index → IsView (slice_index_or l.views i [])

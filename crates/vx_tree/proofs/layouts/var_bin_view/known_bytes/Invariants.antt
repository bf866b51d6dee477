use Rattle.std.proofs.Common.{ℕ, ◌<◌}
use Rattle.vx_base.specs.Bytes.{AreBytes}
use Rattle.vx_views.specs.Views.{buffer_at}
use Rattle.vx_tree.proofs.layouts.var_bin_view.known_bytes.Given as goal

abbrev pub invariant-loop-buffer : goal.invariant-loop-buffer
invariant-loop-buffer l = (block : ℕ) → block < l.buffer-index → AreBytes (buffer_at l.buffers block)

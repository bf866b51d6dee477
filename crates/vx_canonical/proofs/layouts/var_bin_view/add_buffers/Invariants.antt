use Rattle.std.proofs.Common.{◌≡◌, ◌++◌, take}
use Rattle.vx_canonical.proofs.layouts.var_bin_view.add_buffers.Given as goal

abbrev pub invariant-loop-buffer : goal.invariant-loop-buffer
invariant-loop-buffer l = l.out.items ≡ l.fn.out.items ++ take l.buffer-index l.buffers

use Rattle.std.proofs.Common.{◌≡◌, take}
use Rattle.vx_base.proofs.byte_buffer.share_buffers.Given as goal

abbrev pub invariant-loop-buffer : goal.invariant-loop-buffer
invariant-loop-buffer l = l.shared.items ≡ take l.buffer-index l.buffers

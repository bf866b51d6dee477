use Rattle.std.proofs.Common.{◌≡◌, take}
use Rattle.vx_uses.proofs.foreign_texts.shared_buffers.Given as goal

abbrev pub invariant-loop-buffer : goal.invariant-loop-buffer
invariant-loop-buffer l = l.shared.items ≡ take l.buffer-index l.buffers

use Rattle.std.proofs.Common.{◌≡◌, take, map}
use Rattle.vx_c.proofs.layouts.buffers_of.Given as goal

abbrev pub invariant-loop-buffer : goal.invariant-loop-buffer
invariant-loop-buffer l = l.copies.items ≡ map (λ b. b.bytes.now) (take l.buffer-index l.buffers)

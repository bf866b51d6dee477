use Rattle.std.proofs.Common.{◌≡◌, take, map}
use Rattle.vx_c.proofs.writing.copies_of.Given as goal

abbrev pub invariant-loop-buffer : goal.invariant-loop-buffer
invariant-loop-buffer l = map (λ b. b.items) l.copies.items ≡ take l.buffer-index l.buffers

use Rattle.std.proofs.Common.{◌≡◌, ◌++◌, drop}
use Rattle.vx_views.specs.Alone.{whole_texts}
use Rattle.vx_views.proofs.view_checks.read_ahead.Given as goal

-- what was read, before what is left of the budget reads of the other buffers
abbrev pub invariant-loop-buffer : goal.invariant-loop-buffer
invariant-loop-buffer l = l.texts.items ++ whole_texts l.left (drop l.buffer-index l.buffers) ≡ whole_texts l.budget l.buffers

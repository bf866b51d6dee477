use Rattle.std.proofs.Common.{◌≡◌, ◌++◌, drop, replicate, true}
use Rattle.vx_views.specs.Alone.{whole_texts}
use Rattle.vx_views.proofs.AsciiChecks.{AreAsciiBefore}
use Rattle.vx_views.proofs.ascii_checks.are_ascii.Given as goal

-- the buffers so far are reached and are ASCII
abbrev pub invariant-loop-buffer : goal.invariant-loop-buffer
invariant-loop-buffer l = record {
  reached : replicate l.buffer-index true ++ whole_texts l.left (drop l.buffer-index l.buffers) ≡ whole_texts l.budget l.buffers;
  ascii : AreAsciiBefore l.buffer-index l.buffers;
}

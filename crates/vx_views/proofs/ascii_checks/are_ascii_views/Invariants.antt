use Rattle.vx_views.proofs.AsciiChecks.{AreAsciiViewsBefore}
use Rattle.vx_views.proofs.ascii_checks.are_ascii_views.Given as goal

-- the views so far are ASCII
abbrev pub invariant-loop-view : goal.invariant-loop-view
invariant-loop-view l = AreAsciiViewsBefore l.view-index l.buffers l.views

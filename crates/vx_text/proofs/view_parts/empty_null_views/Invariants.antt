use Rattle.std.proofs.Common.{◌≡◌}
use Rattle.vx_views.proofs.EmptiedViews.{AreEmptied}
use Rattle.vx_text.proofs.view_parts.empty_null_views.Given as goal

abbrev pub invariant-loop-row : goal.invariant-loop-row
invariant-loop-row l = record {
  same : l.valid ≡ l.mask;
  emptied : AreEmptied l.mask l.initial.views l.row l.views;
}

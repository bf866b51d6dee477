use Rattle.std.proofs.Common.{◌≡◌, not}
use lib.Dec.{eqb}
use Rattle.vx_views.proofs.CheckedRows.{AreChecked}
use Rattle.vx_views.proofs.EmptiedViews.{AreEmptied}
use Rattle.vx_views.proofs.view_emptying.check_and_empty_rows.Given as goal

-- no row so far is faulty, the views checked alone are those that the definition counts, and the null rows so far are emptied
abbrev pub invariant-loop-row : goal.invariant-loop-row
invariant-loop-row g l = record {
  same : l.valid ≡ l.mask;
  checked : AreChecked (not (eqb g.row.TEXT 0)) l.texts l.mask l.buffers l.initial.views l.row l.alone;
  emptied : AreEmptied l.mask l.initial.views l.row l.views;
}

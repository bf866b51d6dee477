use Rattle.std.proofs.Common.{◌≡◌, not}
use lib.Dec.{eqb}
use Rattle.vx_views.proofs.CheckedRows.{AreChecked}
use Rattle.vx_views.proofs.view_checks.check_rows.Given as goal

-- no row so far is faulty, and the views checked alone are those that the definition counts
abbrev pub invariant-loop-row : goal.invariant-loop-row
invariant-loop-row g l = record {
  same : l.valid ≡ l.mask;
  checked : AreChecked (not (eqb g.row.TEXT 0)) l.texts l.mask l.buffers l.views l.row l.alone;
}

use Rattle.vx_lists.proofs.ListViews.Faults.{AreChecked}
use Rattle.vx_lists.proofs.list_view.checks.check_each_row.Given as goal

abbrev pub invariant-loop-row : goal.invariant-loop-row
invariant-loop-row l = AreChecked l.count l.offsets l.sizes l.row

use Rattle.vx_lists.proofs.ListViews.CountArrays.{AreCountsRead}
use Rattle.vx_lists.proofs.list_view.counts.counts_by_row.Given as goal

abbrev pub invariant-loop-i : goal.invariant-loop-i
invariant-loop-i l = AreCountsRead l.array l.i l.counts.items

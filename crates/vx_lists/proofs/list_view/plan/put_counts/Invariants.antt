use Rattle.vx_lists.specs.ListViews.CountBytes.{counts_of}
use Rattle.vx_lists.proofs.ListViews.CountBytes.{AreWritten}
use Rattle.vx_lists.proofs.list_view.plan.put_counts.Given as goal

abbrev pub invariant-loop-i : goal.invariant-loop-i
invariant-loop-i g l = AreWritten g.N.NativePType.PTYPE (counts_of g.T.NativePType.PTYPE l.counts) l.i l.out

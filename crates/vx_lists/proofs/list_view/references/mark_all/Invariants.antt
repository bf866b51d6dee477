use Rattle.std.proofs.Common.{◌+◌, length, get_or}
use Rattle.vx_lists.proofs.ListViews.MarkedRuns.{AreCovered}
use Rattle.vx_lists.proofs.list_view.references.mark_all.Given as goal

abbrev pub invariant-loop-i : goal.invariant-loop-i
invariant-loop-i l = AreCovered (λ i. get_or l.offsets i 0) (λ i. get_or l.offsets i 0 + get_or l.sizes i 0) l.i (length l.fn.marked) l.marked l.runs

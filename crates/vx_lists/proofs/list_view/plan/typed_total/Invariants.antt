use Rattle.std.proofs.Common.{take}
use Rattle.vx_lists.specs.ListViews.CountBytes.{counts_of}
use Rattle.vx_lists.proofs.ListViews.ValidRuns.{IsRunsTotal}
use Rattle.vx_lists.proofs.list_view.plan.typed_total.Given as goal

abbrev pub invariant-loop-run : goal.invariant-loop-run
invariant-loop-run g l = IsRunsTotal (counts_of g.S.NativePType.PTYPE l.sizes) (take l.run-index l.runs) l.total

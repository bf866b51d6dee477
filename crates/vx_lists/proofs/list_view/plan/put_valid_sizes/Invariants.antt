use Rattle.std.proofs.Common.{take, length}
use Rattle.vx_base.specs.MaskRuns.{marked}
use Rattle.vx_lists.specs.ListViews.CountBytes.{counts_of, HoldCounts}
use Rattle.vx_lists.specs.ListViews.Layout.{valid_sizes}
use Rattle.vx_lists.proofs.list_view.plan.put_valid_sizes.Given as goal

abbrev pub invariant-loop-run : goal.invariant-loop-run
invariant-loop-run g l = HoldCounts g.N.NativePType.PTYPE l.out (valid_sizes (counts_of g.S.NativePType.PTYPE l.sizes) (marked (length l.mask) (take l.run-index l.runs)))

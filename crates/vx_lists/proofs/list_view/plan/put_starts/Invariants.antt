use Rattle.std.proofs.Common.{◌≡◌, sum, take}
use Rattle.vx_lists.specs.ListViews.CountBytes.{counts_of}
use Rattle.vx_lists.specs.ListViews.Layout.{starts_from}
use Rattle.vx_lists.proofs.ListViews.CountBytes.{AreWritten}
use Rattle.vx_lists.proofs.list_view.plan.put_starts.Given as goal

abbrev pub invariant-loop-row : goal.invariant-loop-row
invariant-loop-row g l =
    AreWritten g.O.NativePType.PTYPE (starts_from 0 (counts_of g.S.NativePType.PTYPE l.sizes)) l.row l.out
    × (l.at ≡ sum (take l.row (counts_of g.S.NativePType.PTYPE l.sizes)))

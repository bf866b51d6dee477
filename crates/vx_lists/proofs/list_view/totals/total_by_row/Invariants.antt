use Rattle.std.proofs.Common.{◌≡◌}
use Rattle.vx_lists.proofs.ListViews.TotalSizes.{IsTotalBelow}
use Rattle.vx_lists.proofs.list_view.totals.total_by_row.Given as goal

abbrev pub invariant-loop-row : goal.invariant-loop-row
invariant-loop-row l =
    record {
      present : l.present ≡ l.mask;
      total : IsTotalBelow l.sizes l.mask l.row l.total;
    }

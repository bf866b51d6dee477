use Rattle.std.proofs.Common.{◌≡◌, ◌*◌, ◌-◌, ◌≤◌, ◌^◌, sum, take}
use Rattle.vx_lists.specs.ListViews.CountBytes.{counts_of}
use Rattle.vx_lists.proofs.list_view.plan.sum_counts.Given as goal

abbrev pub invariant-loop-i : goal.invariant-loop-i
invariant-loop-i g l =
    record {
      so_far : l.total ≡ sum (take l.i (counts_of g.T.NativePType.PTYPE l.counts));
      bounded : l.total ≤ (2 ^ 64 - 1) * l.i;
    }

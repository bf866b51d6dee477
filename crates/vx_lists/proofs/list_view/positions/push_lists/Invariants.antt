use Rattle.std.proofs.Common.{◌≡◌, vec_capacity}
use Rattle.vx_lists.specs.ListViews.CountBytes.{counts_of}
use Rattle.vx_lists.proofs.ListViews.PlannedRows.{ArePushed}
use Rattle.vx_lists.proofs.list_view.positions.push_lists.Given as goal

abbrev pub invariant-loop-row : goal.invariant-loop-row
invariant-loop-row g l =
    record {
      pushed : ArePushed (counts_of g.O.NativePType.PTYPE l.offsets) (counts_of g.S.NativePType.PTYPE l.sizes) l.row l.positions.items l.start l.end;
      capacity : vec_capacity l.positions ≡ vec_capacity l.fn.positions;
    }

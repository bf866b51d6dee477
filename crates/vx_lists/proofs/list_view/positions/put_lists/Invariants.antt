use Rattle.std.proofs.Common.{◌≡◌, length, sum, take}
use Rattle.vx_lists.specs.ListViews.CountBytes.{counts_of}
use Rattle.vx_lists.specs.ListViews.Layout.{joined_positions}
use Rattle.vx_lists.proofs.list_view.positions.put_lists.Given as goal

abbrev pub invariant-loop-row : goal.invariant-loop-row
invariant-loop-row g l =
    record {
      len : length l.out ≡ length l.fn.out;
      place : l.at ≡ sum (take l.row (counts_of g.S.NativePType.PTYPE l.sizes));
      put : take l.at l.out ≡ joined_positions (take l.row (counts_of g.O.NativePType.PTYPE l.offsets)) (take l.row (counts_of g.S.NativePType.PTYPE l.sizes));
    }

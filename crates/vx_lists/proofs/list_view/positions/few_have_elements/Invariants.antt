use Rattle.std.proofs.Common.{◌≡◌, ◌≤◌, take}
use Rattle.std.specs.Prelude.{count_by, nat_lt}
use Rattle.vx_lists.specs.ListViews.CountBytes.{counts_of}
use Rattle.vx_lists.proofs.list_view.positions.few_have_elements.Given as goal

abbrev pub invariant-loop-row : goal.invariant-loop-row
invariant-loop-row g l =
    record {
      so_far : l.filled ≡ count_by (λ n. nat_lt 0 n) (take l.row (counts_of g.S.NativePType.PTYPE l.sizes));
      bounded : l.filled ≤ l.row;
    }

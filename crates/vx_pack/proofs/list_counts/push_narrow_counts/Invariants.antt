use Rattle.std.proofs.Common.{◌≤◌, ◌-◌, ◌++◌, ℕ, List, take}
use Rattle.vx_pack.specs.CountBytes.{counts_of}
use Rattle.vx_pack.specs.ListItems.{AreListCounts}
use Rattle.vx_pack.proofs.list_counts.push_narrow_counts.Given as goal

abbrev pub invariant-loop-first : goal.invariant-loop-first
invariant-loop-first g l =
    record {
      within : l.first ≤ l.end;
      counts :
          (ns : List ℕ) → AreListCounts l.fn.counts.total ns l.fn.counts
          → AreListCounts l.fn.counts.total (ns ++ take l.first (counts_of g.T.NativePType.PTYPE l.sizes)) l.counts;
    }

abbrev pub decreases-loop-first : goal.decreases-loop-first
decreases-loop-first g l = l.end - l.first

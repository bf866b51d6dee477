use Rattle.std.proofs.Common.{◌++◌, ℕ, List, take}
use Rattle.vx_pack.specs.CountBytes.{counts_of}
use Rattle.vx_pack.specs.ListItems.{AreListCounts}
use Rattle.vx_pack.proofs.list_counts.push_typed_counts.Given as goal

abbrev pub invariant-loop-i : goal.invariant-loop-i
invariant-loop-i g l =
    (ns : List ℕ) → AreListCounts l.initial.counts.total ns l.initial.counts
    → AreListCounts l.initial.counts.total (ns ++ take l.i (counts_of g.T.NativePType.PTYPE l.sizes)) l.counts

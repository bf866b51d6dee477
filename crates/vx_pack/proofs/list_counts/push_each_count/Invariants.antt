use Rattle.std.proofs.Common.{◌++◌, ℕ, List, map}
use Rattle.std.specs.List.{range_with_len}
use Rattle.vx_base.specs.DTypes.{dtype_meaning}
use Rattle.vx_pack.specs.ListItems.{AreListCounts, item_counts}
use Rattle.vx_pack.specs.Pieces.{piece_row}
use Rattle.vx_pack.proofs.list_counts.push_each_count.Given as goal

abbrev pub invariant-loop-i : goal.invariant-loop-i
invariant-loop-i l =
    let k = dtype_meaning l.dtype in
    (ns : List ℕ) → AreListCounts l.initial.counts.total ns l.initial.counts
    → AreListCounts l.initial.counts.total (ns ++ item_counts k (map (piece_row k l.piece) (range_with_len 0 l.i))) l.counts

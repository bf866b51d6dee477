use Rattle.std.proofs.Common.{◌≡◌, ◌≤◌, ◌+◌, length, map}
use Rattle.std.specs.List.{range_with_len}
use Rattle.vx_base.specs.DTypes.{dtype_meaning}
use Rattle.vx_pack.specs.ListItems.{list_items}
use Rattle.vx_pack.specs.Pieces.{piece_row}
use Rattle.vx_pack.proofs.list_counts.total_with_each.Given as goal

abbrev pub invariant-loop-i : goal.invariant-loop-i
invariant-loop-i l =
    let k = dtype_meaning l.dtype in
    (l.total ≡ l.before + length (list_items k (map (piece_row k l.piece) (range_with_len 0 l.i)))) × (l.total ≤ l.limit)

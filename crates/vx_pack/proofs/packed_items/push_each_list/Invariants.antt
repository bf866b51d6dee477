use Rattle.std.proofs.Common.{◌++◌, List, map}
use Rattle.std.specs.List.{range_with_len}
use Rattle.vx_base.specs.DTypes.{dtype_meaning}
use Rattle.vx_base.specs.Rows.{Row}
use Rattle.vx_pack.specs.Gathered.{AreGathered}
use Rattle.vx_pack.specs.ListItems.{list_items}
use Rattle.vx_pack.specs.Pieces.{piece_row}
use Rattle.vx_pack.proofs.packed_items.push_each_list.Given as goal

abbrev pub invariant-loop-i : goal.invariant-loop-i
invariant-loop-i l =
    let k = dtype_meaning l.dtype in
    (rs : List Row) → AreGathered (dtype_meaning l.items) rs l.initial.gathered
    → AreGathered (dtype_meaning l.items) (rs ++ list_items k (map (piece_row k l.piece) (range_with_len 0 l.i))) l.gathered

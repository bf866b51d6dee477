use Rattle.std.proofs.Common.{◌≡◌, ◌+◌, ◌<◌, ◌^◌, map, drop}
use Rattle.std.specs.List.{sum_by}
use Rattle.vx_tree.specs.Extents.{element_count}
use Rattle.vx_canonical.specs.Counted.{piece_extent}
use Rattle.vx_canonical.proofs.extents.element_count.Given as goal

abbrev pub invariant-loop-piece : goal.invariant-loop-piece
invariant-loop-piece l = (l.count + sum_by element_count (map piece_extent (drop l.piece-index l.pieces)) ≡ sum_by element_count (map piece_extent l.pieces)) × (l.count < 2 ^ 64)

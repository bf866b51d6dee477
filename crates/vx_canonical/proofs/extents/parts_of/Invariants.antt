use Rattle.std.proofs.Common.{◌≡◌, map, take}
use Rattle.vx_canonical.specs.Counted.{part_extent, piece_extent}
use Rattle.vx_canonical.proofs.extents.parts_of.Given as goal

abbrev pub invariant-loop-piece : goal.invariant-loop-piece
invariant-loop-piece l = map piece_extent l.parts.items ≡ map (part_extent l.part) (map piece_extent (take l.piece-index l.pieces))

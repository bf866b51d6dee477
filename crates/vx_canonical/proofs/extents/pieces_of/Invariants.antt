use Rattle.std.proofs.Common.{◌≡◌, map, take}
use Rattle.vx_tree.specs.Extents.{extent_of}
use Rattle.vx_canonical.specs.Counted.{piece_extent}
use Rattle.vx_canonical.proofs.extents.pieces_of.Given as goal

abbrev pub invariant-loop-array : goal.invariant-loop-array
invariant-loop-array l = map piece_extent l.pieces.items ≡ map extent_of (take l.array-index l.arrays)

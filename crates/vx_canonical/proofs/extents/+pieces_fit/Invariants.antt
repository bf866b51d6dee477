use Rattle.std.proofs.Common.{◌≡◌, ◌+◌, ◌*◌, map, drop}
use Rattle.vx_base.specs.Codes.{kind_depth, kinds_depth}
use Rattle.vx_base.specs.DTypes.{dtype_meaning, kinds_of}
use Rattle.vx_canonical.specs.Concatenated.{fields_extents_fault}
use Rattle.vx_canonical.specs.Counted.{piece_extent}
use Rattle.vx_canonical.proofs.extents.+pieces_fit.Given as goal

abbrev pub decreases-pieces_fit : goal.decreases-pieces_fit
decreases-pieces_fit l = 3 * kind_depth (dtype_meaning l.dtype.now)

abbrev pub decreases-parts_fit : goal.decreases-parts_fit
decreases-parts_fit l = 3 * kind_depth (dtype_meaning l.dtype.now) + 1

abbrev pub decreases-columns_fit : goal.decreases-columns_fit
decreases-columns_fit l = 3 * kinds_depth (kinds_of l.dtypes.now) + 2

abbrev pub invariant-columns_fit-loop-place : goal.invariant-columns_fit-loop-place
invariant-columns_fit-loop-place l =
    fields_extents_fault (kinds_of (drop l.place l.dtypes)) l.place l.len (map piece_extent l.pieces)
    ≡ fields_extents_fault (kinds_of l.dtypes) 0 l.len (map piece_extent l.pieces)

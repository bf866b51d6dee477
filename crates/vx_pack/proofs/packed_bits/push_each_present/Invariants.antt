use Rattle.std.proofs.Common.{◌≡◌, ◌++◌, map}
use Rattle.std.specs.List.{range_with_len}
use Rattle.vx_base.specs.DTypes.{dtype_meaning}
use Rattle.vx_base.specs.Rows.{is_present}
use Rattle.vx_pack.specs.Pieces.{piece_row}
use Rattle.vx_pack.proofs.packed_bits.push_each_present.Given as goal

abbrev pub invariant-loop-i : goal.invariant-loop-i
invariant-loop-i l = l.bits ≡ l.initial.bits ++ map is_present (map (piece_row (dtype_meaning l.dtype) l.piece) (range_with_len 0 l.i))

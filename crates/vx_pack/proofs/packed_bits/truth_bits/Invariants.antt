use Rattle.std.proofs.Common.{◌≡◌, map, take}
use Rattle.vx_base.specs.DTypes.{dtype_meaning}
use Rattle.vx_base.specs.Rows.{truth_of}
use Rattle.vx_pack.specs.Pieces.{pieces_rows}
use Rattle.vx_pack.proofs.packed_bits.truth_bits.Given as goal

abbrev pub invariant-loop-piece : goal.invariant-loop-piece
invariant-loop-piece l = l.bits ≡ map truth_of (pieces_rows (dtype_meaning l.dtype) (take l.piece-index l.pieces))

use Rattle.std.proofs.Common.{take}
use Rattle.vx_base.specs.DTypes.{dtype_meaning}
use Rattle.vx_pack.proofs.PresentRows.{AllPresent}
use Rattle.vx_pack.specs.Pieces.{pieces_rows}
use Rattle.vx_pack.proofs.packed_bits.have_presence.Given as goal

abbrev pub invariant-loop-piece : goal.invariant-loop-piece
invariant-loop-piece l = AllPresent l.wanted (pieces_rows (dtype_meaning l.dtype) (take l.piece-index l.pieces))

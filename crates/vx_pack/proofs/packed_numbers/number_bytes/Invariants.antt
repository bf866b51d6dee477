use Rattle.std.proofs.Common.{◌≡◌, Bool, map, take}
use Rattle.vx_base.specs.Kinds.{integers}
use Rattle.vx_pack.specs.Packed.{bytes_of_numbers, number_or_zero}
use Rattle.vx_pack.specs.Pieces.{ArePieces, pieces_rows}
use Rattle.vx_pack.proofs.packed_numbers.number_bytes.Given as goal

abbrev pub invariant-loop-piece : goal.invariant-loop-piece
invariant-loop-piece l =
    (n : Bool) → ArePieces (integers l.ptype n) l.pieces l.len
    → l.bytes.items ≡ bytes_of_numbers l.ptype (map number_or_zero (pieces_rows (integers l.ptype n) (take l.piece-index l.pieces)))

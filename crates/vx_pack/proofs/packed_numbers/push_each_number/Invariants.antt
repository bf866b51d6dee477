use Rattle.std.proofs.Common.{◌≡◌, ◌++◌, Bool, map}
use Rattle.std.specs.List.{range_with_len}
use Rattle.vx_base.specs.Kinds.{integers}
use Rattle.vx_pack.specs.Packed.{bytes_of_numbers, number_or_zero}
use Rattle.vx_pack.specs.Pieces.{IsPiece, piece_row}
use Rattle.vx_pack.proofs.packed_numbers.push_each_number.Given as goal

abbrev pub invariant-loop-i : goal.invariant-loop-i
invariant-loop-i l =
    (n : Bool) → IsPiece (integers l.ptype n) l.piece
    → let rows = map (piece_row (integers l.ptype n) l.piece) (range_with_len 0 l.i) in
    l.bytes.items ≡ l.initial.bytes.items ++ bytes_of_numbers l.ptype (map number_or_zero rows)

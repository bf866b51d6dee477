use Rattle.std.proofs.Common.{map}
use Rattle.std.specs.List.{range_with_len}
use Rattle.vx_base.specs.DTypes.{dtype_meaning}
use Rattle.vx_pack.specs.Pieces.{piece_row}
use Rattle.vx_pack.specs.StoredTexts.{ArePushed, bytes_or_empty, filled}
use Rattle.vx_pack.proofs.packed_texts.push_each_text.Given as goal

abbrev pub invariant-loop-i : goal.invariant-loop-i
invariant-loop-i l =
    ArePushed (filled l.initial.texts) (map bytes_or_empty (map (piece_row (dtype_meaning l.dtype) l.piece) (range_with_len 0 l.i))) (filled l.texts)

use Rattle.std.proofs.Common.{[], map, take}
use Rattle.vx_base.specs.DTypes.{dtype_meaning}
use Rattle.vx_text.specs.Filling.{filling}
use Rattle.vx_pack.specs.Pieces.{pieces_rows}
use Rattle.vx_pack.specs.StoredTexts.{ArePushed, bytes_or_empty, filled}
use Rattle.vx_pack.proofs.packed_texts.filled_with.Given as goal

abbrev pub invariant-loop-piece : goal.invariant-loop-piece
invariant-loop-piece l =
    ArePushed (filling [] [] []) (map bytes_or_empty (pieces_rows (dtype_meaning l.dtype) (take l.piece-index l.pieces))) (filled l.texts)

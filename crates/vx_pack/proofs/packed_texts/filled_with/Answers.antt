use Rattle.std.proofs.Common.{[]}
use Rattle.vx_base.specs.DTypes.{dtype_meaning}
use Rattle.vx_text.specs.Filling.{filling}
use Rattle.vx_pack.specs.StoredTexts.{filled}
use Rattle.vx_pack.proofs.FilledTexts.{pushed_piece}
use Rattle.vx_pack.proofs.packed_texts.filled_with.Goals as goal

pub loop-piece-preserved : goal.loop-piece-preserved
loop-piece-preserved c =
    pushed_piece (dtype_meaning c.args.dtype.now) c.args.pieces.now c.loop-piece.piece-index c.piece-item.result (filling [] [] [])
    (filled c.loop-piece.texts) (filled c.push_texts.new.texts) c.loop-piece-test.true c.piece-item.is c.loop-piece.invariant
    c.in_ok-push_texts.ensures

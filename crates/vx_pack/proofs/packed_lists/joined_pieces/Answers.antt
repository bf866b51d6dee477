use Rattle.std.proofs.Common.{subst}
use Rattle.std.specs.List.{flat_map}
use Rattle.std.proofs.lemmas.List.{take_all}
use Rattle.vx_base.specs.DTypes.{dtype_meaning}
use Rattle.vx_pack.proofs.JoinedPieces.{AreJoined-more}
use Rattle.vx_pack.specs.Packed.{items_or_blank}
use Rattle.vx_pack.specs.Pieces.{AreJoined, pieces_rows}
use Rattle.vx_pack.proofs.packed_lists.joined_pieces.Goals as goal

pub loop-piece-preserved : goal.loop-piece-preserved
loop-piece-preserved c = λ item of_item.
    AreJoined-more item (dtype_meaning c.args.dtype.now) c.args.blank c.loop-piece.piece-index c.args.pieces.now c.piece-item.result
    c.loop-piece.lists.items c.push_joined.new.lists.items
    c.loop-piece-test.true c.piece-item.is (c.loop-piece.invariant item of_item) (c.in_ok-push_joined.ensures item of_item)

pub returns : goal.returns
returns c = λ item of_item.
    subst (λ ps. AreJoined item (flat_map (items_or_blank item c.args.blank) (pieces_rows (dtype_meaning c.args.dtype.now) ps)) c.loop-piece.lists.items)
    (take_all c.loop-piece.piece-index c.args.pieces.now c.loop-piece-test.false) (c.loop-piece.invariant item of_item)

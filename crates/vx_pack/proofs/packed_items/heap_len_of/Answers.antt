use Rattle.vx_base.specs.DTypes.{dtype_meaning}
use Rattle.vx_pack.proofs.ListItems.{lists_have_no_blank, lists_of_items}
use Rattle.vx_pack.proofs.PackedSteps.{lists_items}
use Rattle.vx_pack.proofs.PieceRows.{piece_within}
use Rattle.vx_pack.proofs.packed_items.heap_len_of.Goals as goal

pub stored_texts-requires : goal.stored_texts-requires
stored_texts-requires c =
    let k = dtype_meaning c.args.dtype.now in
    let item = dtype_meaning c.args.items.now in
    let n = c.requires.lists.0 in
    let kind = c.requires.lists.1 in
    let list = c.list_or_blank.ensures item k (lists_items k item n kind) (lists_have_no_blank k (lists_of_items k item n kind)) c.requires.piece in
    piece_within item c.list_or_blank.result list.piece

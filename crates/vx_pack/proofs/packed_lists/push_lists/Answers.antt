use Rattle.std.proofs.Common.{◌≡◌, subst, arith, map}
use Rattle.std.specs.List.{range_with_len}
use Rattle.vx_base.specs.DTypes.{dtype_meaning}
use Rattle.vx_pack.proofs.ListPieces.{ArePushedLists, ArePushedLists-more}
use Rattle.vx_pack.specs.Pieces.{piece_len, piece_row}
use Rattle.vx_pack.proofs.packed_lists.push_lists.Goals as goal

pub loop-i-preserved : goal.loop-i-preserved
loop-i-preserved c = λ item of_item.
    let k = dtype_meaning c.args.dtype.now in
    ArePushedLists-more item k c.args.blank c.loop-i.i c.args.piece c.list_or_blank.result c.args.lists.now.items c.loop-i.lists.items
    c.push.new.self.items (c.loop-i.invariant item of_item)
    (c.list_or_blank.ensures item k of_item c.requires.blank c.requires.piece) c.in_ok-push.ensures.items

pub returns : goal.returns
returns c = λ item of_item.
    let k = dtype_meaning c.args.dtype.now in
    let all : c.loop-i.i ≡ piece_len c.args.piece = omega (arith, c.loop-i-test.false, c.loop-i.auto.i-end, c.len-i-end.ensures) in
    subst (λ n. ArePushedLists item c.args.blank (map (piece_row k c.args.piece) (range_with_len 0 n)) c.args.lists.now.items
    c.loop-i.lists.items) all (c.loop-i.invariant item of_item)

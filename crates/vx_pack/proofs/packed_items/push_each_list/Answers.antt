use Rattle.std.proofs.Common.{◌≡◌, ◌++◌, map, subst, sym, arith}
use Rattle.std.specs.List.{range_with_len}
use Rattle.std.proofs.lemmas.List.{append-nil}
use Rattle.vx_base.specs.DTypes.{dtype_meaning}
use Rattle.vx_pack.specs.Gathered.{AreGathered}
use Rattle.vx_pack.specs.ListItems.{list_items}
use Rattle.vx_pack.specs.Pieces.{piece_len, piece_row}
use Rattle.vx_pack.proofs.ListItems.{list_items_room, list_items_step, lists_have_no_blank, lists_of_items}
use Rattle.vx_pack.proofs.PackedSteps.{lists_items}
use Rattle.vx_pack.proofs.packed_items.push_each_list.Goals as goal

pub loop-i-init : goal.loop-i-init
loop-i-init c = λ rs h. subst (λ xs. AreGathered (dtype_meaning c.args.items.now) xs c.args.gathered.now) (sym (append-nil rs)) h

pub push-requires-clause-piece : goal.push-requires-clause-piece
push-requires-clause-piece c =
    let k = dtype_meaning c.args.dtype.now in
    let item = dtype_meaning c.args.items.now in
    let n = c.requires.lists.0 in
    let kind = c.requires.lists.1 in
    (c.list_or_blank.ensures item k (lists_items k item n kind) (lists_have_no_blank k (lists_of_items k item n kind)) c.requires.piece).piece

pub push-requires-clause-rows : goal.push-requires-clause-rows
push-requires-clause-rows c =
    let k = dtype_meaning c.args.dtype.now in
    let item = dtype_meaning c.args.items.now in
    let n = c.requires.lists.0 in
    let kind = c.requires.lists.1 in
    let list = c.list_or_blank.ensures item k (lists_items k item n kind) (lists_have_no_blank k (lists_of_items k item n kind)) c.requires.piece in
    let rs = c.requires.rows.0 in (
      rs ++ list_items k (map (piece_row k c.args.piece) (range_with_len 0 c.loop-i.i)),
      c.loop-i.invariant rs c.requires.rows.1,
      list_items_room k item n c.args.piece c.list_or_blank.result c.loop-i.i rs kind (omega (arith, c.loop-i-test.true, c.len-i-end.ensures)) list
          c.requires.rows.2,
    )

pub loop-i-preserved : goal.loop-i-preserved
loop-i-preserved c = λ rs h.
    let k = dtype_meaning c.args.dtype.now in
    let item = dtype_meaning c.args.items.now in
    let n = c.requires.lists.0 in
    let kind = c.requires.lists.1 in
    let list = c.list_or_blank.ensures item k (lists_items k item n kind) (lists_have_no_blank k (lists_of_items k item n kind)) c.requires.piece in
    let before = rs ++ list_items k (map (piece_row k c.args.piece) (range_with_len 0 c.loop-i.i)) in
    subst (λ xs. AreGathered item xs c.push.new.self) (list_items_step k item n c.args.piece c.list_or_blank.result c.loop-i.i rs kind list)
    (c.in_ok-push.ensures before (c.loop-i.invariant rs h))

pub returns : goal.returns
returns c = λ rs h.
    let k = dtype_meaning c.args.dtype.now in
    let all : c.loop-i.i ≡ piece_len c.args.piece = omega (arith, c.loop-i-test.false, c.loop-i.auto.i-end, c.len-i-end.ensures) in
    subst (λ m. AreGathered (dtype_meaning c.args.items.now) (rs ++ list_items k (map (piece_row k c.args.piece) (range_with_len 0 m)))
    c.loop-i.gathered) all (c.loop-i.invariant rs h)

use Rattle.std.proofs.Common.{◌∷◌, ◌++◌, ◌∙◌, [], ap}
use Rattle.vx_base.specs.DTypes.{dtype_meaning}
use Rattle.vx_pack.proofs.JoinedPieces.{joined_of_lists}
use Rattle.vx_pack.proofs.RunPieces.{joined_of_stored}
use Rattle.vx_pack.specs.Pieces.{piece_rows}
use Rattle.vx_pack.proofs.packed_lists.push_joined.Goals as goal

pub returns-in_ok-push-in-Some : goal.returns-in_ok-push-in-Some
returns-in_ok-push-in-Some c = λ item of_item. (
  c.in-Some.items ∷ [],
  c.in-Some.ensures item (dtype_meaning c.args.dtype.now) c.args.blank of_item c.requires.blank c.requires.piece,
  c.in_ok-push-in-Some.ensures.items,
)

pub returns-in_ok-push_runs-in-Some-stored_lists : goal.returns-in_ok-push_runs-in-Some-stored_lists
returns-in_ok-push_runs-in-Some-stored_lists c = λ item of_item.
    let k = dtype_meaning c.args.dtype.now in
    let pushed = c.in_ok-push_runs-in-Some-stored_lists.ensures in (
      pushed.0,
      joined_of_stored item c.args.blank (piece_rows k c.args.piece) c.in-Some-stored_lists.stored pushed.0
          (c.in-Some-stored_lists.ensures.lists item k of_item c.requires.piece) pushed.1,
      pushed.2,
    )

pub returns-in_ok-push_lists-in-None-stored_lists : goal.returns-in_ok-push_lists-in-None-stored_lists
returns-in_ok-push_lists-in-None-stored_lists c = λ item of_item.
    let pushed = c.in_ok-push_lists-in-None-stored_lists.ensures item of_item in (
      pushed.0,
      joined_of_lists item c.args.blank (piece_rows (dtype_meaning c.args.dtype.now) c.args.piece) pushed.0 pushed.1,
      pushed.2 ∙ ap (λ ps. ps ++ pushed.0) c.in_ok-reserve-in-None-stored_lists.ensures.items,
    )

use Rattle.std.proofs.Common.{◌≡◌, ◌≤◌, ◌∙◌, Bool, length, map, subst, arith}
use Rattle.std.proofs.lemmas.List.{take_all}
use Rattle.vx_base.proofs.Refused.{Gives-weaker}
use Rattle.vx_base.specs.Kinds.{integers}
use Rattle.vx_pack.proofs.PiecesRead.{piece_at}
use Rattle.vx_pack.proofs.WrittenBack.{numbers_pushed}
use Rattle.vx_pack.specs.Packed.{bytes_of_numbers, number_or_zero}
use Rattle.vx_pack.specs.Pieces.{ArePieces, IsPiece, pieces_rows}
use Rattle.vx_pack.proofs.packed_numbers.number_bytes.Goals as goal

pub loop-piece-preserved : goal.loop-piece-preserved
loop-piece-preserved c = λ n pieces.
    let k = integers c.args.ptype n in
    let ps = c.args.pieces.now in
    let i = c.loop-piece.piece-index in
    let p = c.piece-item.result in
    let piece : IsPiece k p = piece_at k ps i p pieces.each c.loop-piece-test.true c.piece-item.is in
    numbers_pushed c.args.ptype k ps i p c.loop-piece.bytes.items c.push_numbers.new.bytes.items
    c.loop-piece-test.true c.piece-item.is (c.loop-piece.invariant n pieces) (c.in_ok-push_numbers.ensures n piece)

pub returns : goal.returns
returns c =
    let t = c.args.ptype in
    let ps = c.args.pieces.now in
    let done : length ps ≤ c.loop-piece.piece-index = omega arith in
    Gives-weaker c.from_vec.result (λ b. b ≡ c.loop-piece.bytes.items)
    (λ b. (n : Bool) → ArePieces (integers t n) ps c.args.len →
    b ≡ bytes_of_numbers t (map number_or_zero (pieces_rows (integers t n) ps)))
    (λ b given n pieces.
    given ∙ subst (λ qs. c.loop-piece.bytes.items ≡ bytes_of_numbers t (map number_or_zero (pieces_rows (integers t n) qs)))
    (take_all c.loop-piece.piece-index ps done) (c.loop-piece.invariant n pieces)) c.from_vec.ensures

use Rattle.std.proofs.Common.{◌≡◌, ◌≤◌, ℕ, Bool, true, Option, Some, length, subst, arith}
use Rattle.std.proofs.lemmas.List.{take_all}
use Rattle.std.specs.Prelude.{IfSome}
use Rattle.vx_base.specs.DTypes.{dtype_meaning}
use Rattle.vx_base.specs.Kinds.{Kind, is_nullable_kind}
use Rattle.vx_base.specs.Rows.{is_present}
use Rattle.vx_pack.proofs.PresentRows.{AllPresent, pieces_present}
use Rattle.vx_pack.proofs.Tests.{same_truth_options}
use Rattle.vx_pack.specs.Pieces.{piece_row, pieces_rows}
use Rattle.vx_pack.proofs.packed_bits.have_presence.Goals as goal

pub loop-piece-preserved : goal.loop-piece-preserved
loop-piece-preserved c =
    let k = dtype_meaning c.args.dtype.now in
    let p = c.piece-item.result in
    let asked : c.presence.result ≡ Some c.args.wanted =
    same_truth_options c.presence.result (Some c.args.wanted) c.ne.result c.ne.ensures c.if-ne.false in
    let Says : Option Bool → Type 0 = λ o. IfSome o
    (λ b. (k : Kind) (i : ℕ) → is_nullable_kind k ≡ true → is_present (piece_row k p i) ≡ b) in
    let each = subst Says asked c.presence.ensures in
    pieces_present c.args.wanted k c.args.pieces.now c.loop-piece.piece-index p c.loop-piece-test.true c.piece-item.is
    c.loop-piece.invariant (λ i. each k i c.requires.nullable)

pub returns : goal.returns
returns c = λ _.
    let k = dtype_meaning c.args.dtype.now in
    let done : length c.args.pieces.now ≤ c.loop-piece.piece-index = omega arith in
    subst (λ ps. AllPresent c.args.wanted (pieces_rows k ps)) (take_all c.loop-piece.piece-index c.args.pieces.now done)
    c.loop-piece.invariant

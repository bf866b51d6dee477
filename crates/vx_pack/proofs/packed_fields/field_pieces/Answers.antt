use Rattle.std.proofs.Common.{sym, subst}
use Rattle.std.proofs.lemmas.List.{take_all}
use Rattle.vx_base.specs.DTypes.{field_kinds, field_names}
use Rattle.vx_base.specs.Kinds.{records}
use Rattle.vx_pack.proofs.FieldPieces.{AreFieldPieces-more}
use Rattle.vx_pack.specs.Pieces.{AreFieldPieces, IsPiece, pieces_rows}
use Rattle.vx_pack.specs.Records.{kind_at}
use Rattle.vx_pack.proofs.packed_fields.field_pieces.Goals as goal

pub loop-piece-preserved : goal.loop-piece-preserved
loop-piece-preserved c = λ n each.
    let names = field_names c.args.fields.now in
    let ks = field_kinds c.args.fields.now in
    let k = records names ks n in
    let here = subst (IsPiece k) (sym c.piece-item.is) (each c.loop-piece.piece-index c.piece-item.result c.loop-piece-test.true) in
    AreFieldPieces-more (kind_at c.args.place ks) k c.args.place c.loop-piece.piece-index c.args.pieces.now c.piece-item.result
    c.loop-piece.column.items c.push_field.new.column.items
    c.loop-piece-test.true c.piece-item.is (c.loop-piece.invariant n each) (c.in_ok-push_field.ensures n here)

pub returns : goal.returns
returns c = λ n each.
    let names = field_names c.args.fields.now in
    let ks = field_kinds c.args.fields.now in
    subst (λ ps. AreFieldPieces (kind_at c.args.place ks) c.args.place (pieces_rows (records names ks n) ps) c.loop-piece.column.items)
    (take_all c.loop-piece.piece-index c.args.pieces.now c.loop-piece-test.false) (c.loop-piece.invariant n each)

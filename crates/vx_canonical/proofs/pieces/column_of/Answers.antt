use Rattle.std.proofs.Common.{◌∙◌, ap, sym}
use Rattle.std.proofs.lemmas.Bool.{ltb-true, ltb-false}
use Rattle.vx_base.proofs.Refused.{Gives-weaker}
use Rattle.vx_tree.specs.Extents.{column_extent}
use Rattle.vx_canonical.specs.Counted.{piece_extent}
use Rattle.vx_canonical.proofs.Counted.{column_there, column_absent}
use Rattle.vx_canonical.proofs.pieces.column_of.Goals as goal

pub returns-in-Some : goal.returns-in-Some
returns-in-Some c =
    let here = c.in-Some.ensures.lookup in
    let there = column_there c.in-Records.columns.now c.args.place c.in-Some.column.now (ltb-true c.args.place _ (sym here.0)) here.1 in
    Gives-weaker c.piece_of.result _ _ (λ p e. e ∙ there ∙ sym (ap (λ q. column_extent c.args.place (piece_extent q)) c.in-Records.is)) c.piece_of.ensures

pub returns-in-None : goal.returns-in-None
returns-in-None c =
    column_absent c.in-Records.columns.now c.args.place (ltb-false c.args.place _ (sym c.in-None.ensures.lookup.0))
    ∙ sym (ap (λ q. column_extent c.args.place (piece_extent q)) c.in-Records.is)

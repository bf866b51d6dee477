use Rattle.std.proofs.Common.{[], subst, sym, ◌∙◌}
use Rattle.std.proofs.lemmas.Bool.{ltb-true}
use Rattle.std.proofs.lemmas.List.{get_or_default}
use Rattle.vx_views.specs.TextsAround.{AreTextsAround}
use Rattle.vx_views.proofs.texts_around.is_text_at.Goals as goal

pub is_text_range-requires-clause-table : goal.is_text_range-requires-clause-table
is_text_range-requires-clause-table c =
    let within = ltb-true c.args.block _ (sym c.in-Some.ensures.lookup.0) in
    subst (AreTextsAround c.args.bytes.now) (get_or_default c.args.tables.now c.args.block [] c.in-Some.table.now within ∙ sym c.in-Some.ensures.lookup.1) c.requires.tables

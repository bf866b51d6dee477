use Rattle.std.proofs.Common.{◌∙◌, ap}
use Rattle.std.proofs.lemmas.Iterator.{YieldsList-from_slice}
use Rattle.std.proofs.lemmas.Iterator.Consumers.{YieldsList-from_copied}
use Rattle.std.proofs.lemmas.Result.{err_from_is_err_and}
use Rattle.std.specs.Prelude.{map}
use Rattle.vx_tree.specs.Meaning.{kind_of, rows}
use Rattle.vx_text.specs.Collected.{maybe_value}
use Rattle.vx_text.specs.Items.{heap_lens}
use Rattle.vx_views.proofs.BuildRefusals.{piece_count}
use Rattle.vx_views.specs.declared.view.TheConstants.{MAX_BUFFER_LEN}
use Rattle.vx_uses.proofs.CollectedTexts.{rows_of_texts, texts_made, texts_faultless, texts_refused}
use Rattle.vx_uses.proofs.collected.texts_or_nulls.Goals as goal

pub returns-clause-rows : goal.returns-clause-rows
returns-clause-rows c =
    let items = c.args.items.now in
    let made = c.in_ok-column.ensures.ok in
    let places = c.rows_stand_at_their_places.ensures in
    let is = texts_made _ c.copied.result items (YieldsList-from_copied (YieldsList-from_slice items cc)) c.in_ok-column.column made.all made.came made.is in
    ap rows c.into_array.ensures.value ∙ rows_of_texts places.len places.each (map maybe_value items) c.in_ok-column.column is

pub returns-clause-kind : goal.returns-clause-kind
returns-clause-kind c = ap kind_of (c.into_array.ensures.value ∙ c.in_ok-column.ensures.ok.is.tree)

pub returns-clause-refuses : goal.returns-clause-refuses
returns-clause-refuses c =
    let items = c.args.items.now in
    let made = c.in_ok-column.ensures.ok in
    let n = piece_count MAX_BUFFER_LEN (heap_lens (map maybe_value items)) in
    (n.0, (n.1, texts_faultless _ c.copied.result items (YieldsList-from_copied (YieldsList-from_slice items cc)) c.in_ok-column.column made.all made.came made.faultless made.is n.0 n.1))

pub returns-in_err-column-clause-refuses : goal.returns-in_err-column-clause-refuses
returns-in_err-column-clause-refuses c =
    let items = c.args.items.now in
    let p = err_from_is_err_and c.from_residual.result c.from_residual.ensures.1 in
    let told = texts_refused _ c.copied.result items (YieldsList-from_copied (YieldsList-from_slice items cc)) c.in_err-column.field-0.0 c.in_err-column.ensures.err in
    (told.0, (told.1.0, rw (p.1, p.2) told.1.1))

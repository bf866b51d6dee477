use Rattle.std.proofs.Common.{◌≡◌, false, map, ◌∙◌, ap}
use Rattle.std.specs.Prelude.{is_some, unwrap_or}
use Rattle.std.proofs.lemmas.Iterator.{YieldsList-from_slice}
use Rattle.std.proofs.lemmas.Iterator.Consumers.{YieldsList-from_copied}
use Rattle.vx_base.specs.Kinds.{booleans}
use Rattle.vx_tree.specs.Meaning.{kind_of, rows}
use Rattle.vx_tree.specs.Tree.{all_valid}
use Rattle.vx_tree.specs.Validities.{valid_from}
use Rattle.vx_uses.specs.Collected.{truth_row}
use Rattle.vx_uses.proofs.CollectedItems.{all_came, nullable_items, rows_of_truths}
use Rattle.vx_uses.proofs.collected.truths_or_nulls.Goals as goal

pub returns-clause-rows : goal.returns-clause-rows
returns-clause-rows c =
    let items = c.args.items.now in
    let all = c.in_ok-column.ensures in
    let came : all.0 ≡ items = all_came _ c.copied.result all.0 items all.1 (YieldsList-from_copied (YieldsList-from_slice items cc)) in
    ap rows (c.into_array.ensures.value ∙ all.2)
    ∙ c.rows_of_bits.ensures.masked 0 (map (λ item. unwrap_or item false) all.0) (valid_from 0 (map is_some all.0) all_valid)
    ∙ rows_of_truths all.0 ∙ ap (map truth_row) came

pub returns-clause-kind : goal.returns-clause-kind
returns-clause-kind c =
    let all = c.in_ok-column.ensures in
    ap kind_of (c.into_array.ensures.value ∙ all.2) ∙ ap booleans (nullable_items (map is_some all.0))

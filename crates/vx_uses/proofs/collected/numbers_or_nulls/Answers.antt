use Rattle.std.proofs.Common.{◌≡◌, map, ◌∙◌, ap}
use Rattle.std.specs.Prelude.{is_some}
use Rattle.std.proofs.lemmas.Iterator.{YieldsList-from_slice}
use Rattle.std.proofs.lemmas.Iterator.Consumers.{YieldsList-from_copied}
use Rattle.vx_base.specs.Kinds.{integers}
use Rattle.vx_tree.specs.Meaning.{kind_of, rows}
use Rattle.vx_tree.specs.Tree.{all_valid}
use Rattle.vx_tree.specs.Validities.{valid_from}
use Rattle.vx_leaves.specs.Leaves.{number_or_zero}
use Rattle.vx_uses.specs.Collected.{number_row}
use Rattle.vx_uses.proofs.CollectedItems.{all_came, nullable_items, rows_of_items}
use Rattle.vx_uses.proofs.collected.numbers_or_nulls.Goals as goal

pub returns-clause-rows : goal.returns-clause-rows
returns-clause-rows g c =
    let items = c.args.items.now in
    let all = c.in_ok-column.ensures in
    let value = g.T.Number.value in
    let came : all.0 ≡ items = all_came _ c.copied.result all.0 items all.1 (YieldsList-from_copied (YieldsList-from_slice items cc)) in
    ap rows c.into_array.ensures.value
    ∙ c.rows_of_numbers.ensures.masked g.T.NativePType.PTYPE (map (number_or_zero value) all.0) (valid_from 0 (map is_some all.0) all_valid) c.in_ok-column.column all.2
    ∙ rows_of_items value all.0 ∙ ap (map (number_row value)) came

pub returns-clause-kind : goal.returns-clause-kind
returns-clause-kind g c =
    let all = c.in_ok-column.ensures in
    ap kind_of (c.into_array.ensures.value ∙ all.2.tree) ∙ ap (integers g.T.NativePType.PTYPE) (nullable_items (map is_some all.0))

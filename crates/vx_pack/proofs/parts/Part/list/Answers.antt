use Rattle.std.proofs.Common.{◌<◌, length, sym, subst}
use Rattle.vx_pack.proofs.PartRows.{list_of_values}
use Rattle.vx_pack.proofs.ValueLists.{value_row_at}
use Rattle.vx_pack.specs.Lists.{IsItemOf, IsListIn, IsListOf}
use Rattle.vx_pack.specs.Parts.{IsPart, part_row}
use Rattle.vx_pack.proofs.parts.Part.list.Goals as goal

pub returns-in-Array : goal.returns-in-Array
returns-in-Array c = λ item k of_item whole.
    let part = subst (IsPart k) c.in-Array.is whole in
    subst (λ p. IsListIn item (part_row k p c.args.i) c.list_at.result) (sym c.in-Array.is)
    (c.list_at.ensures item (subst (IsItemOf item) (sym part.kind) of_item))

pub returns-in_ok-items_of-in-Values : goal.returns-in_ok-items_of-in-Values
returns-in_ok-items_of-in-Values c = λ item k of_item whole.
    let inside : c.args.i < length c.in-Values.values.now = rw c.in-Values.is at c.requires.in_bounds in
    let part = subst (IsPart k) c.in-Values.is whole in
    subst (λ p. IsListOf item (part_row k p c.args.i) c.part_of_values.result) (sym c.in-Values.is)
    (list_of_values item k c.index-values-i.result _ c.in_ok-items_of-in-Values.field-0.now c.part_of_values.result of_item (part.fits c.args.i inside)
    (value_row_at k c.in-Values.values.now c.args.i c.index-values-i.result inside c.index-values-i.is) c.in_ok-items_of-in-Values.ensures c.part_of_values.ensures)

use Rattle.std.proofs.Common.{rules, ◌≡◌, ◌∙◌, length, ap, sym, Some}
use Rattle.std.proofs.lemmas.List.{length-map}
use Rattle.vx_base.specs.declared.scalar_value.ScalarValue.TheVariants as value
use Rattle.vx_base.specs.ValueRows.{option_row}
use Rattle.vx_canonical.proofs.PlainParts.{items_of_value}
use Rattle.vx_canonical.proofs.pieces.item_count.Goals as goal

pub returns-in-Some-List : goal.returns-in-Some-List
returns-in-Some-List c =
    let is : c.args.value.now ≡ Some (value.List c.in-Some-List.rows) = search rules in
    let ws = c.as_slice.result.now in
    sym (length-map ws option_row) ∙ ap length (items_of_value c.args.value.now c.in-Some-List.rows ws is c.as_slice.ensures)

use Rattle.std.proofs.Common.{rules, ◌≡◌, ◌∙◌, ◌++◌, ap, map, Some}
use Rattle.std.proofs.lemmas.List.{map-append}
use Rattle.vx_base.proofs.Refused.{Gives-weaker}
use Rattle.vx_base.specs.declared.scalar_value.ScalarValue.TheVariants as value
use Rattle.vx_base.specs.ValueRows.{option_row}
use Rattle.vx_canonical.proofs.PlainParts.{items_of_value}
use Rattle.vx_canonical.proofs.canonical_nested.add_items.Goals as goal

pub returns-in-Some-List : goal.returns-in-Some-List
returns-in-Some-List c =
    let is : c.args.value.now ≡ Some (value.List c.in-Some-List.rows) = search rules in
    let ws = c.as_slice.result.now in
    let old = c.args.out.now.items in
    Gives-weaker c.add_rows.result _ _
    (λ a e. ap (map option_row) e ∙ map-append option_row old ws ∙ ap (λ xs. map option_row old ++ xs) (items_of_value c.args.value.now c.in-Some-List.rows ws is c.as_slice.ensures))
    c.add_rows.ensures

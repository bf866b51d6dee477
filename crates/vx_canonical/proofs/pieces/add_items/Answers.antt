use Rattle.std.proofs.Common.{length, map, arith, ◌+◌}
use Rattle.std.specs.List.{flat_map}
use Rattle.vx_base.proofs.Joined.{counted}
use Rattle.vx_base.specs.ValueRows.{option_row}
use Rattle.vx_tree.specs.RowParts.{items_in}
use Rattle.std.proofs.lemmas.List.{at_drop_all}
use Rattle.vx_canonical.proofs.pieces.add_items.Goals as goal

pub returns-clause-tests : goal.returns-clause-tests
returns-clause-tests c =
    let none = at_drop_all (λ vs. length (flat_map items_in (map option_row vs))) c.args.values.now c.loop-value.value-index c.loop-value-test.false in
    counted (c.args.count + length (flat_map items_in (map option_row c.args.values.now))) (omega (arith, none, c.loop-value.invariant.0, c.loop-value.invariant.1))

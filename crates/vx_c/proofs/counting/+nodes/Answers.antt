use Rattle.std.proofs.Common.{ap, sym, ◌∙◌, arith}
use Rattle.std.proofs.lemmas.Grind.{common_steps}
use Rattle.std.proofs.lemmas.List.{drop_all}
use Rattle.vx_tree.proofs.Columns.{columns_below}
use Rattle.vx_tree.specs.Meaning.{trees_from}
use Rattle.vx_tree.specs.Parts.{tree_of, valid_of}
use Rattle.vx_c.specs.Unflagged.{trees_count}
use Rattle.vx_c.proofs.Counts.{some_node}
use Rattle.vx_c.proofs.counting.+nodes.Goals as goal

pub left_by_array-returns-in_err-left : goal.left_by_array-returns-in_err-left
left_by_array-returns-in_err-left t c =
    let some = some_node c.args.array.now in
    grind (arith, common_steps, some)

pub left_by_array-left_by_columns-requires : goal.left_by_array-left_by_columns-requires
left_by_array-left_by_columns-requires t c =
    let parts = c.in-Struct in
    let same = sym c.layout.ensures.parts ∙ ap tree_of parts.is in
    let below = columns_below c.args.array.now parts.names parts.columns.items c.deref.result.now (valid_of parts.validity) parts.len same c.deref.ensures.value in
    (omega (arith, below, c.decreases), tt)

pub left_by_columns-returns : goal.left_by_columns-returns
left_by_columns-returns t c =
    let none = ap (λ ts. trees_count (trees_from ts)) (drop_all c.loop-column.column-index c.args.columns.now c.loop-column-test.false) in
    (omega (arith, none, c.loop-column.invariant), omega (arith, none, c.loop-column.invariant))

use Rattle.std.proofs.Common.{ap, sym, ◌∙◌, arith}
use Rattle.vx_tree.specs.Parts.{tree_of, valid_of}
use Rattle.vx_tree.proofs.Columns.{columns_below, countable-next, overflow-first}
use Rattle.vx_lists.proofs.list_view.totals.+is_countable.Goals as goal

pub is_countable-are_countable-requires : goal.is_countable-are_countable-requires
is_countable-are_countable-requires t c =
    let same = sym c.layout.ensures.parts ∙ ap tree_of c.in-Struct.is in
    let m = columns_below c.args.array.now c.in-Struct.names c.in-Struct.columns.items c.deref.result.now (valid_of c.in-Struct.validity) c.in-Struct.len same c.deref.ensures.value in
    (omega (arith, m, c.decreases), tt)

pub are_countable-returns-then-not-is_countable : goal.are_countable-returns-then-not-is_countable
are_countable-returns-then-not-is_countable t c =
    overflow-first c.args.count c.args.columns.now c.loop-column.column-index c.column-item.result c.loop-column.invariant c.loop-column-test.true c.column-item.is (rw c.if-not-is_countable.true at c.is_countable.ensures)

pub are_countable-loop-column-preserved : goal.are_countable-loop-column-preserved
are_countable-loop-column-preserved t c =
    countable-next c.args.count c.args.columns.now c.loop-column.column-index c.column-item.result c.loop-column.invariant c.loop-column-test.true c.column-item.is (rw c.if-not-is_countable.false at c.is_countable.ensures)

use Rattle.std.proofs.Common.{ap, sym, ◌∙◌, arith}
use Rattle.vx_tree.specs.Parts.{tree_of, valid_of}
use Rattle.vx_tree.proofs.Columns.{columns_below, countable-next, overflow-first}
use Rattle.vx_tree.proofs.array.ArrayRef.+can_select.Goals as goal

pub can_select-can_select_columns-requires : goal.can_select-can_select_columns-requires
can_select-can_select_columns-requires t c =
    let same = sym c.layout.ensures.parts ∙ ap tree_of c.in-Struct.is in
    let m = columns_below c.args.self.now c.in-Struct.names c.in-Struct.columns.items c.deref.result.now (valid_of c.in-Struct.validity) c.in-Struct.len same c.deref.ensures.value in
    (omega (arith, m, c.decreases), tt)

pub can_select_columns-returns-then-not-can_select : goal.can_select_columns-returns-then-not-can_select
can_select_columns-returns-then-not-can_select t c =
    overflow-first c.args.count c.args.columns.now c.loop-column.column-index c.column-item.result c.loop-column.invariant c.loop-column-test.true c.column-item.is (rw c.if-not-can_select.true at c.can_select.ensures)

pub can_select_columns-loop-column-preserved : goal.can_select_columns-loop-column-preserved
can_select_columns-loop-column-preserved t c =
    countable-next c.args.count c.args.columns.now c.loop-column.column-index c.column-item.result c.loop-column.invariant c.loop-column-test.true c.column-item.is (rw c.if-not-can_select.false at c.can_select.ensures)

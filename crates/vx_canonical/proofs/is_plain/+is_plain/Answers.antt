use Rattle.std.proofs.Common.{ap, sym, ◌∙◌, arith}
use Rattle.vx_tree.specs.Parts.{tree_of, valid_of}
use Rattle.vx_tree.proofs.Columns.{columns_below}
use Rattle.vx_canonical.proofs.PlainTests.{are_plain-next, are_plain-all, are_plain-none}
use Rattle.vx_canonical.proofs.is_plain.+is_plain.Goals as goal

pub is_plain-are_plain-requires : goal.is_plain-are_plain-requires
is_plain-are_plain-requires t c =
    let same = sym c.layout.ensures.parts ∙ ap tree_of c.in-Struct.is in
    let m = columns_below c.args.array.now c.in-Struct.names c.in-Struct.columns.items c.deref.result.now (valid_of c.in-Struct.validity) c.in-Struct.len same c.deref.ensures.value in
    (omega (arith, m, c.decreases), tt)

pub are_plain-returns-then-not-is_plain : goal.are_plain-returns-then-not-is_plain
are_plain-returns-then-not-is_plain t c =
    sym (are_plain-none c.args.columns.now c.loop-column.column-index c.column-item.result c.loop-column.invariant c.loop-column-test.true c.column-item.is (sym c.is_plain.ensures ∙ c.if-not-is_plain.true))

pub are_plain-loop-column-preserved : goal.are_plain-loop-column-preserved
are_plain-loop-column-preserved t c =
    are_plain-next c.args.columns.now c.loop-column.column-index c.column-item.result c.loop-column.invariant c.loop-column-test.true c.column-item.is (sym c.is_plain.ensures ∙ c.if-not-is_plain.false)

pub are_plain-returns : goal.are_plain-returns
are_plain-returns t c =
    sym (are_plain-all c.args.columns.now c.loop-column.column-index c.loop-column.invariant c.loop-column-test.false)

use Rattle.std.proofs.Common.{◌+◌, ◌≤◌, ap, arith, subst, sym, ◌∙◌}
use denote.Param.Weighed.{at_most}
use Rattle.vx_tree.specs.declared.array.ArrayRef.TheDeep.{size-ArrayRef}
use Rattle.vx_tree.specs.Tree.{Tree, structure}
use Rattle.vx_tree.specs.Parts.{tree_of, valid_of}
use Rattle.vx_tree.specs.Meaning.{tree_len, trees_from}
use Rattle.vx_tree.specs.Formed.{WellFormed}
use Rattle.vx_tree.proofs.Columns.{AllReach-at, AllReach-from_len, AreFields-next, AreFields-all, columns_below, record_under}
use Rattle.vx_tree.proofs.Values.{list_under}
use Rattle.vx_tree.proofs.array.ArrayRef.+value.Goals as goal

pub record_value-column_values-requires : goal.record_value-column_values-requires
record_value-column_values-requires t c =
    let same = sym c.layout.ensures.parts ∙ ap tree_of c.in-Struct.is in
    let ts = trees_from c.in-Struct.columns.items in
    let m = columns_below c.args.self.now c.in-Struct.names c.in-Struct.columns.items c.deref.result.now (valid_of c.in-Struct.validity) c.in-Struct.len same c.deref.ensures.value in
    let formed : WellFormed (structure c.in-Struct.names ts (valid_of c.in-Struct.validity) c.in-Struct.len) = rw c.in-Struct.is at c.layout.ensures.formed in
    let inside = rw same at c.requires.in_bounds in
    (omega (arith, m, c.decreases), rw c.deref.ensures.value (AllReach-from_len c.in-Struct.len (c.args.i + 1) ts formed.1.lens (omega (arith, inside))))

pub column_values-value_at-requires : goal.column_values-value_at-requires
column_values-value_at-requires t c =
    let m = at_most size-ArrayRef c.args.columns.now c.loop-column.column-index c.column-item.result c.loop-column-test.true in
    let d = ap size-ArrayRef c.column-item.is in
    let P : Tree → Type 0 = λ x. c.args.i + 1 ≤ tree_len x in
    let inside = subst P (sym c.column-item.is) (AllReach-at (c.args.i + 1) c.args.columns.now c.loop-column.column-index c.column-item.result c.requires c.loop-column-test.true) in
    (omega (arith, m, d, c.decreases), omega (arith, inside))

pub column_values-loop-column-preserved : goal.column_values-loop-column-preserved
column_values-loop-column-preserved t c =
    AreFields-next c.args.columns.now c.args.i c.loop-column.column-index c.column-item.result c.loop-column.values.items c.push.new.self.items c.in_ok-value_at.field-0
    c.loop-column.invariant c.loop-column-test.true c.column-item.is c.in_ok-value_at.ensures c.in_ok-push.ensures.items

pub column_values-returns : goal.column_values-returns
column_values-returns t c = AreFields-all c.args.columns.now c.args.i c.loop-column.column-index c.loop-column.values.items c.loop-column.invariant c.loop-column-test.false

pub record_value-returns : goal.record_value-returns
record_value-returns t c =
    let same = sym c.layout.ensures.parts ∙ ap tree_of c.in-Struct.is in
    let ts = trees_from c.in-Struct.columns.items in
    let formed : WellFormed (structure c.in-Struct.names ts (valid_of c.in-Struct.validity) c.in-Struct.len) = rw c.in-Struct.is at c.layout.ensures.formed in
    record_under c.args.self.now c.in-Struct.names ts (valid_of c.in-Struct.validity) c.in-Struct.len c.args.i c.in_ok-values.values.items c.in_ok-values-2.values
    same (sym c.is_valid_at.ensures ∙ c.if-not-is_valid_at.false) formed.1.named (rw c.deref.ensures.value at c.in_ok-values.ensures) c.in_ok-values-2.ensures

pub list_value-returns : goal.list_value-returns
list_value-returns t c =
    let same = sym c.layout.ensures.parts ∙ ap tree_of c.in-ListView.is in
    list_under c.args.self.now c.in-ListView.elements c.in-ListView.offsets c.in-ListView.sizes (valid_of c.in-ListView.validity) c.in-ListView.flag c.args.i c.in_ok-values.values.items c.in_ok-values-2.values
    same (sym c.is_valid_at.ensures ∙ c.if-not-is_valid_at.false) (rw (c.count_at.ensures, c.count_at-2.ensures) at c.in_ok-values.ensures) c.in_ok-values-2.ensures

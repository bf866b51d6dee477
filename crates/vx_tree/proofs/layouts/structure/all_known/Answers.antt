use Rattle.vx_tree.proofs.Columns.{ColumnsFormed-next, ColumnsFormed-all}
use Rattle.vx_tree.proofs.layouts.structure.all_known.Goals as goal

pub loop-column-preserved : goal.loop-column-preserved
loop-column-preserved c =
    ColumnsFormed-next c.args.columns.now c.loop-column.column-index c.column-item.result c.loop-column.invariant c.loop-column-test.true c.column-item.is c.known.ensures

pub returns : goal.returns
returns c = ColumnsFormed-all c.args.columns.now c.loop-column.column-index c.loop-column.invariant c.loop-column-test.false

use Rattle.vx_tree.proofs.Columns.{IsAlike, IsAlike-defaults, AllZip-next, AreAlike-from_each}
use Rattle.vx_tree.proofs.layouts.structure.default_columns.Goals as goal

pub loop-column-preserved : goal.loop-column-preserved
loop-column-preserved c =
    AllZip-next (λ t u. IsAlike t c.args.len u) c.args.columns.now c.loop-column.made.items c.push.new.self.items c.loop-column.column-index c.column-item.result c.in_ok-default_rows.field-0
    c.loop-column.invariant c.loop-column-test.true c.column-item.is (IsAlike-defaults c.column-item.result c.in_ok-default_rows.field-0 c.args.len c.in_ok-default_rows.ensures) c.in_ok-push.ensures.items

pub returns : goal.returns
returns c = AreAlike-from_each c.args.len c.args.columns.now c.loop-column.made.items c.loop-column.column-index c.loop-column.invariant c.loop-column-test.false

use Rattle.vx_tree.specs.Operations.{IsNulled}
use Rattle.vx_tree.specs.Parts.{valid_of}
use Rattle.vx_tree.proofs.Columns.{AllZip-next}
use Rattle.vx_structs.proofs.push.nulled_columns.Goals as goal

pub loop-column-preserved : goal.loop-column-preserved
loop-column-preserved c =
    AllZip-next (λ t u. IsNulled t (valid_of c.args.validity.now) u) c.args.columns.now c.loop-column.made.items c.push.new.self.items c.loop-column.column-index c.column-item.result c.in_ok-nulled.field-0
    c.loop-column.invariant c.loop-column-test.true c.column-item.is c.in_ok-nulled.ensures.by_row c.in_ok-push.ensures.items

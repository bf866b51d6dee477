use Rattle.vx_canonical.proofs.JoinedStates.{parts-more}
use Rattle.vx_canonical.proofs.join.validity_parts.Goals as goal

pub loop-array-preserved : goal.loop-array-preserved
loop-array-preserved c =
    parts-more c.args.arrays.now c.loop-array.array-index c.array-item.result c.loop-array.parts.items c.push.new.self.items (c.in_ok-validity.field-0, c.len.result)
    c.loop-array-test.true c.array-item.is c.loop-array.invariant c.in_ok-validity.ensures c.len.ensures c.in_ok-push.ensures.items

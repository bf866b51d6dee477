use Rattle.std.proofs.Common.{◌∙◌, arith}
use Rattle.vx_base.proofs.PutPositions.{position_pushed}
use Rattle.vx_base.proofs.position_runs.push_positions.Goals as goal

pub loop-position-preserved : goal.loop-position-preserved
loop-position-preserved c =
    let kept = c.loop-position.invariant in
    let call = c.push_reserved in
    record {
      items = position_pushed c.args.positions.now.items c.loop-position.positions.items call.new.self.items c.args.start c.loop-position.position c.loop-position.auto.position kept.items call.ensures.items;
      room = omega (arith, kept.room, call.ensures.len, call.ensures.capacity);
      capacity = call.ensures.capacity ∙ kept.capacity;
    }

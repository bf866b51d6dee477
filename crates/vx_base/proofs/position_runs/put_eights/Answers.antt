use Rattle.std.proofs.Common.{◌∙◌, take, arith}
use Rattle.vx_base.proofs.PutPositions.{eight_put}
use Rattle.vx_base.proofs.position_runs.put_eights.Goals as goal

pub loop-j-preserved : goal.loop-j-preserved
loop-j-preserved c =
    let call = c.put_eight-in-loop-j in (
      call.ensures.len ∙ c.loop-j.invariant.0,
      eight_put c.loop-j.out call.new.out (take c.args.at c.args.out.now) c.args.at c.args.start c.args.count c.loop-j.j (omega arith) c.requires.end c.loop-j.invariant.1 call.ensures.put,
    )

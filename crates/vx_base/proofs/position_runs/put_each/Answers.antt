use Rattle.std.proofs.Common.{◌+◌, ◌∙◌, take, arith}
use Rattle.std.proofs.lemmas.List.{length-set}
use Rattle.vx_base.proofs.PutPositions.{position_put}
use Rattle.vx_base.proofs.position_runs.put_each.Goals as goal

pub loop-i-preserved : goal.loop-i-preserved
loop-i-preserved c =
    let out = c.loop-i.out in
    let i = c.loop-i.i in (
      length-set out (c.args.at + i) (c.args.start + i) ∙ c.loop-i.invariant.0,
      position_put out (take c.args.at c.args.out.now) c.args.at i c.args.start (omega (arith, c.loop-i.invariant.0, c.requires.room)) c.loop-i.invariant.1,
    )

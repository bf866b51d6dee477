use Rattle.std.proofs.Common.{◌+◌, ◌%◌, ◌^◌, ◌∙◌, take, arith}
use Rattle.std.proofs.lemmas.List.{length-set}
use Rattle.vx_base.proofs.PutPositions.{positions_put}
use Rattle.vx_base.proofs.position_runs.put_eight.Goals as goal

pub loop-i-preserved : goal.loop-i-preserved
loop-i-preserved c =
    let out = c.loop-i.out in
    let i = c.loop-i.i in
    let value = (c.args.start + i) % 2 ^ 64 in (
      length-set out (c.args.at + i) value ∙ c.loop-i.invariant.0,
      λ n few fits. positions_put out (take c.args.at c.args.out.now) c.args.at i c.args.start value n (omega (arith, c.loop-i.invariant.0, c.requires.room)) (λ small. omega arith) c.loop-i.invariant.1 few fits,
    )

use Rattle.std.proofs.Common.{length, refl, ap, arith}
use Rattle.std.proofs.lemmas.Grind.{common_steps}
use Rattle.vx_base.proofs.Joined.{uncounted}
use Rattle.vx_tree.specs.Joins.{joined_mask}
use Rattle.vx_tree.proofs.Joins.{rows_more, rows_within}
use Rattle.vx_tree.proofs.validity.concat.row_count.Goals as goal

pub loop-len-preserved : goal.loop-len-preserved
loop-len-preserved c =
    let more = rows_more c.args.parts.now c.loop-len.len-index c.loop-len-item.result c.loop-len-test.true in
    grind (arith, common_steps, more)

pub returns-in_default-clause-tests : goal.returns-in_default-clause-tests
returns-in_default-clause-tests c =
    let within = rows_within c.args.parts.now c.loop-len.len-index c.loop-len-item.result c.loop-len-test.true in
    (refl, uncounted (length (joined_mask c.args.parts.now)) (omega (arith, within, ap (λ part. part.1) c.loop-len-item.is)))

use Rattle.std.proofs.Common.{arith}
use Rattle.std.proofs.lemmas.Grind.{common_steps}
use Rattle.vx_tree.proofs.Joins.{joined_more, rows_within}
use Rattle.vx_tree.proofs.validity.concat.appended_bits.Goals as goal

pub loop-part-preserved : goal.loop-part-preserved
loop-part-preserved c =
    grind (arith, common_steps, joined_more c.args.parts.now c.loop-part.part-index c.loop-part-item.result c.loop-part-test.true)

pub append_to-requires-clause-short : goal.append_to-requires-clause-short
append_to-requires-clause-short c =
    grind (arith, common_steps, rows_within c.args.parts.now c.loop-part.part-index c.loop-part-item.result c.loop-part-test.true)

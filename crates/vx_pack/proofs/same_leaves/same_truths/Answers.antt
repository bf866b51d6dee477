use Rattle.std.proofs.Common.{below_more, sym, ◌∙◌}
use Rattle.vx_pack.proofs.Tests.{same_truth_options}
use Rattle.vx_pack.proofs.same_leaves.same_truths.Goals as goal

pub loop-i-preserved : goal.loop-i-preserved
loop-i-preserved c = λ k.
    below_more _ _ (c.loop-i.invariant k)
    (sym (c.truth.ensures k) ∙ same_truth_options c.truth.result c.truth-in-loop-i.result c.ne.result c.ne.ensures c.if-ne.false ∙ c.truth-in-loop-i.ensures k)

use Rattle.std.proofs.Common.{below_more, sym, ◌∙◌}
use Rattle.vx_pack.proofs.same_leaves.same_each_text.Goals as goal

pub loop-i-preserved : goal.loop-i-preserved
loop-i-preserved c = λ k. below_more _ _ (c.loop-i.invariant k) (sym (c.bytes.ensures k) ∙ c.same_bytes.ensures.0 c.if-not-same_bytes.false ∙ c.bytes-in-loop-i.ensures k)

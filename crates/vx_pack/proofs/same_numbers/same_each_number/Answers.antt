use Rattle.std.proofs.Common.{below_more, sym, ◌∙◌}
use Rattle.vx_pack.proofs.Tests.{same_number_options}
use Rattle.vx_pack.proofs.same_numbers.same_each_number.Goals as goal

pub loop-i-preserved : goal.loop-i-preserved
loop-i-preserved c = λ k.
    below_more _ _ (c.loop-i.invariant k)
    (sym (c.number.ensures k) ∙ same_number_options c.number.result c.number-in-loop-i.result c.ne.result c.ne.ensures c.if-ne.false ∙ c.number-in-loop-i.ensures k)

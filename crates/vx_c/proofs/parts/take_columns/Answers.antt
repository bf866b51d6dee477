use Rattle.std.proofs.Common.{◌≡◌, ◌+◌, ◌∙◌, suc, reverse, subst, arith}
use Rattle.vx_c.specs.Parts.{AreTakenColumns}
use Rattle.vx_c.proofs.PartLists.{columns-more}
use Rattle.vx_c.proofs.parts.take_columns.Goals as goal

pub loop-taken-preserved : goal.loop-taken-preserved
loop-taken-preserved c = λ ts described.
    let taken = c.loop-taken.taken in
    let len = c.args.len in
    let left = reverse c.pop.new.parts.items in
    let next : suc taken ≡ taken + 1 = omega arith in
    subst (λ n. AreTakenColumns n len left ts) next
    (columns-more taken len c.in-Some.part left ts (λ t d. c.len.ensures t d ∙ c.if-len.true)
    (subst (λ ps. AreTakenColumns taken len ps ts) c.in-Some.ensures (c.loop-taken.invariant ts described)))

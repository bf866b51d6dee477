use Rattle.std.proofs.lemmas.Result.{err_from_is_err_and}
use Rattle.vx_canonical.proofs.PlainTexts.{AreTexts-next, texts_refused}
use Rattle.std.proofs.Common.{arith}
use Rattle.std.proofs.lemmas.Grind.{common_steps}
use Rattle.vx_canonical.proofs.canonical_values.plain_views.Goals as goal

pub returns-in_err-plain_view-clause-refuses : goal.returns-in_err-plain_view-clause-refuses
returns-in_err-plain_view-clause-refuses c =
    let p = err_from_is_err_and c.from_residual-in_err-plain_view.result c.from_residual-in_err-plain_view.ensures.1 in
    rw (p.1, p.2) (texts_refused c.args.values.now c.loop-value.value-index c.value-item.result c.loop-value.views.items c.loop-value.buffers.items c.in_err-plain_view.field-0.0 c.loop-value.invariant c.loop-value-test.true c.value-item.is
    c.in_err-plain_view.ensures.refuses)

pub loop-value-preserved : goal.loop-value-preserved
loop-value-preserved c =
    let made = c.in_ok-plain_view.ensures in
    AreTexts-next c.args.values.now c.loop-value.value-index c.value-item.result c.loop-value.views.items c.loop-value.buffers.items c.push.new.self.items c.plain_view.new.buffers.items c.in_ok-plain_view.field-0
    c.loop-value.invariant c.loop-value-test.true c.value-item.is made.view c.in_ok-push.ensures.items made.buffers made.few

pub returns-clause-made : goal.returns-clause-made
returns-clause-made c = grind (arith, common_steps)

pub returns-clause-refuses : goal.returns-clause-refuses
returns-clause-refuses c = grind (arith, common_steps)

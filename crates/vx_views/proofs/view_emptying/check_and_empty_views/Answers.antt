use Rattle.std.proofs.Common.{◌≡◌, true, false, subst, ◌∙◌}
use Rattle.std.specs.Prelude.{IfOk}
use Rattle.vx_views.specs.Alone.{alone_of}
use Rattle.vx_views.proofs.AloneViews.{are_whole_texts}
use Rattle.vx_views.proofs.EmptiedViews.{untouched-from_tests}
use Rattle.vx_views.proofs.FaultyViews.{sound-from_tests}
use Rattle.vx_views.proofs.view_emptying.check_and_empty_views.Goals as goal

pub returns-then-not-check_utf8-clause-sound : goal.returns-then-not-check_utf8-clause-sound
returns-then-not-check_utf8-clause-sound c = rw c.if-not-check_utf8.true (sound-from_tests c.check_and_empty_rows.result false c.args.mask.now c.args.buffers.now c.args.views.now c.check_and_empty_rows.ensures.tests)

pub check_and_empty_rows-requires-2-clause-texts : goal.check_and_empty_rows-requires-2-clause-texts
check_and_empty_rows-requires-2-clause-texts c = λ on. are_whole_texts _ c.args.buffers.now c.deref-2.result.now (c.deref-2.ensures.value ∙ c.in_ok-texts.ensures)

pub returns-clause-sound : goal.returns-clause-sound
returns-clause-sound c = rw c.if-not-check_utf8.false (sound-from_tests c.check_and_empty_rows-2.result true c.args.mask.now c.args.buffers.now c.args.views.now c.check_and_empty_rows-2.ensures.tests)

-- the buffers that were read are those that this budget reaches
pub returns-clause-left : goal.returns-clause-left
returns-clause-left c =
    rw c.if-not-check_utf8.false (subst (λ texts. IfOk c.check_and_empty_rows-2.result (λ left. left ≡ alone_of true texts c.args.mask.now c.args.views.now)) (c.deref-2.ensures.value ∙ c.in_ok-texts.ensures) c.check_and_empty_rows-2.ensures.alone)

pub returns-then-not-check_utf8-clause-untouched : goal.returns-then-not-check_utf8-clause-untouched
returns-then-not-check_utf8-clause-untouched c = untouched-from_tests c.check_and_empty_rows.result _ _ _ c.check_and_empty_rows.ensures.tests

pub returns-clause-untouched : goal.returns-clause-untouched
returns-clause-untouched c = untouched-from_tests c.check_and_empty_rows-2.result _ _ _ c.check_and_empty_rows-2.ensures.tests

pub text_tables-requires-clause-texts : goal.text_tables-requires-clause-texts
text_tables-requires-clause-texts c = (are_whole_texts _ c.args.buffers.now c.deref.result.now (c.deref.ensures.value ∙ c.in_ok-texts.ensures)).len

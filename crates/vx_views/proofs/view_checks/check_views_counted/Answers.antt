use Rattle.std.proofs.Common.{◌≡◌, true, false, subst, ◌∙◌}
use Rattle.std.specs.Prelude.{IfOk}
use Rattle.vx_views.specs.Alone.{alone_of}
use Rattle.vx_views.proofs.AloneViews.{are_whole_texts}
use Rattle.vx_views.proofs.AsciiChecks.{ascii_faultless, ascii_none_left}
use Rattle.vx_views.proofs.FaultyViews.{sound-from_tests, views_fault-AreSoundViews}
use Rattle.vx_views.proofs.view_checks.check_views_counted.Goals as goal

pub returns-then-not-check_utf8-clause-sound : goal.returns-then-not-check_utf8-clause-sound
returns-then-not-check_utf8-clause-sound c = rw c.if-not-check_utf8.true (sound-from_tests c.check_rows.result false c.args.mask.now c.args.buffers.now c.args.views.now c.check_rows.ensures.tests)

pub check_rows-requires-2-clause-texts : goal.check_rows-requires-2-clause-texts
check_rows-requires-2-clause-texts c = λ on. are_whole_texts _ c.args.buffers.now c.deref-2.result.now (c.deref-2.ensures.value ∙ c.in_ok-texts.ensures)

pub returns-clause-sound : goal.returns-clause-sound
returns-clause-sound c = rw c.if-not-check_utf8.false (sound-from_tests c.check_rows-2.result true c.args.mask.now c.args.buffers.now c.args.views.now c.check_rows-2.ensures.tests)

-- the buffers that were read are those that this budget reaches
pub returns-clause-left : goal.returns-clause-left
returns-clause-left c =
    rw c.if-not-check_utf8.false (subst (λ texts. IfOk c.check_rows-2.result (λ left. left ≡ alone_of true texts c.args.mask.now c.args.views.now)) (c.deref-2.ensures.value ∙ c.in_ok-texts.ensures) c.check_rows-2.ensures.alone)

-- where all is ASCII
pub returns-then-are_ascii_views-clause-refuses : goal.returns-then-are_ascii_views-clause-refuses
returns-then-are_ascii_views-clause-refuses c =
    rw c.if-not-check_utf8.false (ascii_faultless c.args.buffers.now (c.are_ascii.ensures.ascii c.if-are_ascii.true) c.args.mask.now c.args.views.now (c.are_ascii_views.ensures c.if-are_ascii_views.true))

pub returns-then-are_ascii_views-clause-sound : goal.returns-then-are_ascii_views-clause-sound
returns-then-are_ascii_views-clause-sound c =
    rw c.if-not-check_utf8.false ((views_fault-AreSoundViews true c.args.mask.now c.args.buffers.now c.args.views.now).0
    (ascii_faultless c.args.buffers.now (c.are_ascii.ensures.ascii c.if-are_ascii.true) c.args.mask.now c.args.views.now (c.are_ascii_views.ensures c.if-are_ascii_views.true)))

pub returns-then-are_ascii_views-clause-left : goal.returns-then-are_ascii_views-clause-left
returns-then-are_ascii_views-clause-left c =
    rw c.if-not-check_utf8.false (ascii_none_left c.args.buffers.now (c.are_ascii.ensures.ascii c.if-are_ascii.true) c.args.mask.now c.args.views.now
    (c.are_ascii_views.ensures c.if-are_ascii_views.true) c.args.budget (c.are_ascii.ensures.reached c.if-are_ascii.true))

pub text_tables-requires-clause-texts : goal.text_tables-requires-clause-texts
text_tables-requires-clause-texts c = (are_whole_texts _ c.args.buffers.now c.deref.result.now (c.deref.ensures.value ∙ c.in_ok-texts.ensures)).len

use Rattle.std.proofs.Common.{true, refl, sym, ◌∙◌, inr, rules}
use Rattle.std.proofs.lemmas.Bool.{false≢true}
use Rattle.std.proofs.lemmas.Str.{IsUtf8-from_ascii}
use Rattle.vx_views.specs.Views.{held_value}
use Rattle.vx_views.proofs.AloneViews.{ascii_is, not_ascii_is}
use Rattle.vx_views.proofs.FaultyViews.{text_fault_found, text_fault_none}
use Rattle.vx_views.proofs.view_checks.check_inlined_text.Goals as goal

pub returns-then-is_inlined_ascii-clause-tests : goal.returns-then-is_inlined_ascii-clause-tests
returns-then-is_inlined_ascii-clause-tests c =
    let value = held_value c.args.view.now in
    text_fault_none true value c.args.row (inr (IsUtf8-from_ascii value (c.is_inlined_ascii.ensures.0 c.if-is_inlined_ascii.true)))

pub returns-then-is_inlined_ascii-clause-alone : goal.returns-then-is_inlined_ascii-clause-alone
returns-then-is_inlined_ascii-clause-alone c = ascii_is (held_value c.args.view.now) (c.is_inlined_ascii.ensures.0 c.if-is_inlined_ascii.true)

pub returns-clause-alone : goal.returns-clause-alone
returns-clause-alone c = not_ascii_is (held_value c.args.view.now) (search (rules, c.is_inlined_ascii.ensures, c.if-is_inlined_ascii.false))

pub returns-then-not-is_held_text-clause-tests : goal.returns-then-not-is_held_text-clause-tests
returns-then-not-is_held_text-clause-tests c =
    let value = held_value c.args.view.now in (
      refl,
      text_fault_found true value c.args.row refl (λ text. false≢true (sym c.if-not-is_held_text.true ∙ c.is_held_text.ensures.1 text)),
    )

pub returns-clause-tests : goal.returns-clause-tests
returns-clause-tests c = text_fault_none true (held_value c.args.view.now) c.args.row (inr (c.is_held_text.ensures.0 c.if-not-is_held_text.false))

use Rattle.std.proofs.Common.{sym, ◌∙◌}
use Rattle.std.proofs.lemmas.Bool.{false≢true}
use Rattle.vx_views.proofs.Utf8Ranges.{boundaries_decide}
use Rattle.vx_views.proofs.view_checks.is_text_range.Goals as goal

pub returns-then-is_boundary : goal.returns-then-is_boundary
returns-then-is_boundary c =
    let law = boundaries_decide c.args.text.now c.requires.text c.args.range.start c.args.range.end c.requires.some c.requires.within in
    (λ told. law.1 (c.is_boundary.ensures.0 c.if-is_boundary.true, c.is_boundary-then-is_boundary.ensures.0 told), λ text. c.is_boundary-then-is_boundary.ensures.1 (law.0 text).1)

pub returns-else-is_boundary : goal.returns-else-is_boundary
returns-else-is_boundary c =
    let law = boundaries_decide c.args.text.now c.requires.text c.args.range.start c.args.range.end c.requires.some c.requires.within in
    (λ told. absurd (false≢true (sym c.if-is_boundary.false ∙ told)), λ text. c.is_boundary.ensures.1 (law.0 text).0)

use Rattle.vx_views.proofs.Utf8Ranges.{boundaries_decide}
use Rattle.vx_c.proofs.lent_views.is_text_range.Goals as goal

pub returns-then-is_boundary : goal.returns-then-is_boundary
returns-then-is_boundary c = λ told.
    (boundaries_decide c.args.text.now c.requires.text c.args.range.start c.args.range.end c.requires.some c.requires.within).1
    (c.is_boundary.ensures.0 c.if-is_boundary.true, c.is_boundary-then-is_boundary.ensures.0 told)

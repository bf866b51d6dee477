use Rattle.vx_views.proofs.Utf8Ranges.{boundaries_decide}
use Rattle.vx_views.proofs.text_laws.boundaries_decide_ranges.Goals as goal

pub returns : goal.returns
returns c = boundaries_decide

use Rattle.vx_lists.proofs.ListViews.ExactViews.{exact}
use Rattle.vx_lists.proofs.laws.trimmed_views_are_exact.Goals as goal

pub returns : goal.returns
returns c = λ t r formed. exact t formed r

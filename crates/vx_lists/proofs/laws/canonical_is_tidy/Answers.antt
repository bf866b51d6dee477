use Rattle.vx_lists.proofs.ListViews.TidyLayouts.{canonical_tidy}
use Rattle.vx_lists.proofs.laws.canonical_is_tidy.Goals as goal

pub returns : goal.returns
returns g c = λ rows. canonical_tidy rows

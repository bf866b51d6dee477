use Rattle.vx_lists.proofs.ListViews.MappedLayouts.{canonical-numbered}
use Rattle.vx_lists.proofs.laws.gather_is_canonical.Goals as goal

pub returns : goal.returns
returns g c = λ l d. canonical-numbered l d

use Rattle.vx_lists.proofs.ListViews.MappedLayouts.{canonical-position_rows}
use Rattle.vx_lists.proofs.laws.gather_by_positions.Goals as goal

pub returns : goal.returns
returns g c = λ l d well. canonical-position_rows l d well

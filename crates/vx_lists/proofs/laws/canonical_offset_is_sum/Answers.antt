use Rattle.vx_lists.proofs.ListViews.CanonicalRows.{canonical_offset}
use Rattle.vx_lists.proofs.laws.canonical_offset_is_sum.Goals as goal

pub returns : goal.returns
returns g c = λ rows i inside. canonical_offset rows i inside

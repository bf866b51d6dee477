use Rattle.vx_lists.proofs.ListViews.CanonicalRows.{canonical_stands_for}
use Rattle.vx_lists.proofs.laws.canonical_stands.Goals as goal

pub returns : goal.returns
returns g c = λ rows. canonical_stands_for rows

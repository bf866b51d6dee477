use Rattle.vx_lists.proofs.ListViews.CanonicalRows.{canonical_stands_for}
use Rattle.vx_lists.proofs.laws.canonical_rows_stand.Goals as goal

pub returns : goal.returns
returns c = λ rows. canonical_stands_for rows

use Rattle.std.proofs.Common.{ap}
use Rattle.vx_lists.specs.ListViews.Layout.{canonical}
use Rattle.vx_lists.proofs.ListViews.CanonicalRows.{canonical_injective}
use Rattle.vx_lists.proofs.laws.canonical_rows_are_exact.Goals as goal

pub returns : goal.returns
returns c = λ rows others. (canonical_injective rows others, λ same. ap canonical same)

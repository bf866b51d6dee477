use Rattle.vx_lists.proofs.ListViews.RebuiltAlike.{rebuilt_alike}
use Rattle.vx_lists.proofs.laws.equal_rows_rebuild_alike.Goals as goal

pub returns : goal.returns
returns c = λ t u r q first second. rebuilt_alike t u r q first second

use Rattle.vx_lists.proofs.ListViews.TidyLayouts.{canonical_len}
use Rattle.vx_lists.proofs.laws.canonical_len_is_valid_total.Goals as goal

pub returns : goal.returns
returns g c = λ l well. canonical_len l well

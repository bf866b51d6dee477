use Rattle.std.proofs.Common.{ap, ◌∙◌}
use Rattle.vx_lists.specs.ListViews.Layout.{canonical}
use Rattle.vx_lists.proofs.ListViews.TidyLayouts.{tidy_same}
use Rattle.vx_lists.proofs.laws.tidy_is_canonical.Goals as goal

pub returns : goal.returns
returns g c = λ l rows stands tidy. tidy_same l stands.well_formed tidy ∙ ap canonical stands.same

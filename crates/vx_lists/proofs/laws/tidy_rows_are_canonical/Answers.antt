use Rattle.std.proofs.Common.{ap, ◌∙◌}
use Rattle.vx_lists.specs.ListViews.Layout.{canonical}
use Rattle.vx_lists.proofs.ListViews.TidyLayouts.{tidy_same}
use Rattle.vx_lists.proofs.laws.tidy_rows_are_canonical.Goals as goal

pub returns : goal.returns
returns c = λ l rows stands tidy. tidy_same l stands.well_formed tidy ∙ ap canonical stands.same

use Rattle.std.proofs.Common.{sym, ◌∙◌, ap}
use Rattle.vx_lists.specs.ListViews.{is_list_view}
use Rattle.vx_uses.proofs.EndToEnd.{list_kind}
use Rattle.vx_uses.proofs.list_laws.list_views_have_lists_of_their_elements.Goals as goal

pub returns-clause-kind : goal.returns-clause-kind
returns-clause-kind c = list_kind c.args.lists.now (ap is_list_view (sym c.as_array.ensures.value) ∙ c.as_array.ensures.layout)

use Rattle.std.proofs.Common.{subst}
use Rattle.vx_tree.specs.Fitting.{AllFormed}
use Rattle.vx_uses.proofs.AppendedLists.{joined_refused}
use Rattle.vx_uses.proofs.appended_lists.joined_lists_are_refused_by_their_rows.Goals as goal

pub returns : goal.returns
returns c = joined_refused c.args.lists.now c.requires (subst AllFormed c.as_array.ensures.value c.known.ensures) c.list_views_stand_for_their_lists.ensures

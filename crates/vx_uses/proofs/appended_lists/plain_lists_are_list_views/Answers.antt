use Rattle.std.proofs.Common.{subst}
use Rattle.vx_tree.specs.Formed.{WellFormed}
use Rattle.vx_uses.proofs.AppendedLists.{plain_lists}
use Rattle.vx_uses.proofs.appended_lists.plain_lists_are_list_views.Goals as goal

pub returns : goal.returns
returns c = λ item m is. plain_lists c.args.array.now item m (subst WellFormed c.layout.ensures.parts c.layout.ensures.formed) c.requires is

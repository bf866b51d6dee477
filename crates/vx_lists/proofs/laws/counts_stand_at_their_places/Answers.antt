use Rattle.vx_lists.proofs.ListViews.ViewLayouts.{length-counts_in, get_or-counts_in}
use Rattle.vx_lists.proofs.laws.counts_stand_at_their_places.Goals as goal

pub returns-clause-len : goal.returns-clause-len
returns-clause-len c = length-counts_in

pub returns-clause-each : goal.returns-clause-each
returns-clause-each c = get_or-counts_in

use Rattle.vx_tree.proofs.Composed.{sliced_keeps, selected_keeps, nulled_keeps, taken_keeps}
use Rattle.vx_tree.proofs.laws.dictionaries_keep_their_values.Goals as goal

pub returns-clause-sliced : goal.returns-clause-sliced
returns-clause-sliced c = sliced_keeps

pub returns-clause-selected : goal.returns-clause-selected
returns-clause-selected c = selected_keeps

pub returns-clause-nulled : goal.returns-clause-nulled
returns-clause-nulled c = nulled_keeps

pub returns-clause-taken : goal.returns-clause-taken
returns-clause-taken c = taken_keeps

use Rattle.vx_views.proofs.Places.{prefix_of_view, head_of_view, order_prefix_of_view, order_tail_of_view}
use Rattle.vx_views.proofs.view_laws.words_of_views_are_words_of_values.Goals as goal

pub returns-clause-prefix : goal.returns-clause-prefix
returns-clause-prefix c = λ value block offset. prefix_of_view value block offset

pub returns-clause-head : goal.returns-clause-head
returns-clause-head c = λ value block offset short. head_of_view value block offset short

pub returns-clause-order_prefix : goal.returns-clause-order_prefix
returns-clause-order_prefix c = λ value block offset. order_prefix_of_view value block offset

pub returns-clause-order_tail : goal.returns-clause-order_tail
returns-clause-order_tail c = λ value block offset short. order_tail_of_view value block offset short

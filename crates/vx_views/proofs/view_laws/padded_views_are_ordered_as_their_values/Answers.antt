use Rattle.vx_views.proofs.WordOrder.{words_order}
use Rattle.vx_views.proofs.view_laws.padded_views_are_ordered_as_their_values.Goals as goal

pub returns : goal.returns
returns c = λ buffers others v w z y. words_order buffers others v w z y

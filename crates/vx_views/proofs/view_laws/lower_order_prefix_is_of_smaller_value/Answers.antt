use Rattle.vx_views.proofs.WordOrder.{lower_prefix}
use Rattle.vx_views.proofs.view_laws.lower_order_prefix_is_of_smaller_value.Goals as goal

pub returns : goal.returns
returns c = λ a b h k lower. lower_prefix a b h k lower

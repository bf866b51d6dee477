use Rattle.vx_views.proofs.Bytewise.{smaller_from_less, less_from_smaller, same_from_equal, equal_from_same, less_from_greater, greater_from_less}
use Rattle.vx_views.proofs.view_laws.order_is_by_the_first_difference.Goals as goal

pub returns-clause-less : goal.returns-clause-less
returns-clause-less c = λ a b. (smaller_from_less a b, less_from_smaller a b)

pub returns-clause-equal : goal.returns-clause-equal
returns-clause-equal c = λ a b. (same_from_equal a b, equal_from_same a b)

pub returns-clause-greater : goal.returns-clause-greater
returns-clause-greater c = λ a b. (λ h. smaller_from_less b a (less_from_greater a b h), λ s. greater_from_less a b (less_from_smaller b a s))

use Rattle.vx_views.proofs.Budgets.{reached-AreWithinBudget, AreWithinBudget-reached}
use Rattle.vx_views.proofs.text_laws.budget_reaches_by_sums.Goals as goal

pub returns-clause-sums : goal.returns-clause-sums
returns-clause-sums c = reached-AreWithinBudget

pub returns-clause-one : goal.returns-clause-one
returns-clause-one c = AreWithinBudget-reached

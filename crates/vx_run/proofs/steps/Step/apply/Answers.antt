use Rattle.std.proofs.Common.{sym, subst}
use Rattle.vx_base.specs.Refusals.{Refuses}
use Rattle.vx_run.specs.Steps.{step_fault}
use Rattle.vx_run.proofs.steps.Step.apply.Goals as goal

pub returns-in-RemoveColumn-clause-refuses : goal.returns-in-RemoveColumn-clause-refuses
returns-in-RemoveColumn-clause-refuses c =
    subst (λ s. Refuses c.without_column.result (step_fault s c.args.arrays.now)) (sym c.in-RemoveColumn.is) c.without_column.ensures.refuses

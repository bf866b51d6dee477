use Rattle.std.proofs.Common.{arith}
use Rattle.std.proofs.lemmas.Grind.{common_steps}
use Rattle.vx_tree.proofs.validity.rows.take_truths.Goals as goal

pub returns-clause-taken : goal.returns-clause-taken
returns-clause-taken c = c.in_ok-truths.ensures

pub returns-clause-refuses : goal.returns-clause-refuses
returns-clause-refuses c = grind (arith, common_steps)

pub returns-then-not-is_int-clause-refuses : goal.returns-then-not-is_int-clause-refuses
returns-then-not-is_int-clause-refuses c = grind (arith, common_steps)

pub returns-then-not-is_int-clause-taken : goal.returns-then-not-is_int-clause-taken
returns-then-not-is_int-clause-taken c = tt

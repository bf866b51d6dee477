use Rattle.std.proofs.Common.{arith}
use Rattle.std.proofs.lemmas.Grind.{common_steps}
use Rattle.vx_tree.proofs.validity.concat.joined_parts.Goals as goal

pub returns-clause-joined : goal.returns-clause-joined
returns-clause-joined c = grind (arith, common_steps)

pub returns-clause-refuses : goal.returns-clause-refuses
returns-clause-refuses c = grind (arith, common_steps)

pub returns-in_default-clause-joined : goal.returns-in_default-clause-joined
returns-in_default-clause-joined c = grind (arith, common_steps)

pub returns-in_default-clause-refuses : goal.returns-in_default-clause-refuses
returns-in_default-clause-refuses c = grind (arith, common_steps)

pub returns-then-are_all-clause-joined : goal.returns-then-are_all-clause-joined
returns-then-are_all-clause-joined c = grind (arith, common_steps)

pub returns-then-are_all-clause-refuses : goal.returns-then-are_all-clause-refuses
returns-then-are_all-clause-refuses c = grind (arith, common_steps)

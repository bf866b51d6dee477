use Rattle.std.proofs.Common.{arith}
use Rattle.std.proofs.lemmas.Grind.{common_steps}
use Rattle.vx_tree.proofs.array.Validity.trivial_into_non_nullable.Goals as goal

pub returns-clause-ok : goal.returns-clause-ok
returns-clause-ok c = grind (arith, common_steps)

pub returns-clause-tests : goal.returns-clause-tests
returns-clause-tests c = grind (arith, common_steps)

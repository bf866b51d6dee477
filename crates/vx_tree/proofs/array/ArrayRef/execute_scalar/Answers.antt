use Rattle.std.proofs.Common.{arith}
use Rattle.std.proofs.lemmas.Grind.{common_steps}
use Rattle.vx_tree.proofs.array.ArrayRef.execute_scalar.Goals as goal

pub returns-then-i-len-clause-refuses : goal.returns-then-i-len-clause-refuses
returns-then-i-len-clause-refuses c = grind (arith, common_steps)

pub returns-then-i-len-clause-row : goal.returns-then-i-len-clause-row
returns-then-i-len-clause-row c = grind (arith, common_steps)

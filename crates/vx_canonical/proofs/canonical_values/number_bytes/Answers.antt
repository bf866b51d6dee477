use Rattle.std.proofs.Common.{arith}
use Rattle.std.proofs.lemmas.Grind.{common_steps}
use Rattle.vx_canonical.proofs.canonical_values.number_bytes.Goals as goal

pub returns-clause-len : goal.returns-clause-len
returns-clause-len c = grind (arith, common_steps)

pub returns-clause-numbers : goal.returns-clause-numbers
returns-clause-numbers c = grind (arith, common_steps)

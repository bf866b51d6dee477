use Rattle.std.proofs.Common.{arith}
use Rattle.std.proofs.lemmas.Grind.{common_steps}
use Rattle.vx_tree.proofs.array.Validity.nulls.Goals as goal

pub returns-in-AllInvalid : goal.returns-in-AllInvalid
returns-in-AllInvalid c = grind (arith, common_steps)

pub returns-in-AllValid : goal.returns-in-AllValid
returns-in-AllValid c = grind (arith, common_steps)

pub returns-in-Array : goal.returns-in-Array
returns-in-Array c = grind (arith, common_steps)

pub returns-in-NonNullable : goal.returns-in-NonNullable
returns-in-NonNullable c = grind (arith, common_steps)

use Rattle.std.proofs.Common.{arith}
use Rattle.std.proofs.lemmas.Grind.{common_steps}
use Rattle.vx_tree.proofs.array.Validity.filter.Goals as goal

pub returns-in-AllInvalid-clause-filtered : goal.returns-in-AllInvalid-clause-filtered
returns-in-AllInvalid-clause-filtered c = grind (arith, common_steps)

pub returns-in-AllInvalid-clause-refuses : goal.returns-in-AllInvalid-clause-refuses
returns-in-AllInvalid-clause-refuses c = grind (arith, common_steps)

pub returns-in-AllValid-clause-filtered : goal.returns-in-AllValid-clause-filtered
returns-in-AllValid-clause-filtered c = grind (arith, common_steps)

pub returns-in-AllValid-clause-refuses : goal.returns-in-AllValid-clause-refuses
returns-in-AllValid-clause-refuses c = grind (arith, common_steps)

pub returns-in-NonNullable-clause-filtered : goal.returns-in-NonNullable-clause-filtered
returns-in-NonNullable-clause-filtered c = grind (arith, common_steps)

pub returns-in-NonNullable-clause-refuses : goal.returns-in-NonNullable-clause-refuses
returns-in-NonNullable-clause-refuses c = grind (arith, common_steps)

pub returns-in_ok-array-in-Array-clause-filtered : goal.returns-in_ok-array-in-Array-clause-filtered
returns-in_ok-array-in-Array-clause-filtered c = grind (arith, common_steps)

pub returns-in_ok-array-in-Array-clause-refuses : goal.returns-in_ok-array-in-Array-clause-refuses
returns-in_ok-array-in-Array-clause-refuses c = grind (arith, common_steps)

pub returns-then-not-is_plain_bool-clause-filtered : goal.returns-then-not-is_plain_bool-clause-filtered
returns-then-not-is_plain_bool-clause-filtered c = grind (arith, common_steps)

pub returns-then-not-is_plain_bool-clause-refuses : goal.returns-then-not-is_plain_bool-clause-refuses
returns-then-not-is_plain_bool-clause-refuses c = grind (arith, common_steps)

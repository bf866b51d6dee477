use Rattle.std.proofs.Common.{arith}
use Rattle.std.proofs.lemmas.Grind.{common_steps}
use Rattle.vx_tree.proofs.array.Validity.execute.Goals as goal

pub returns-in-AllInvalid-clause-ok : goal.returns-in-AllInvalid-clause-ok
returns-in-AllInvalid-clause-ok c = grind (arith, common_steps)

pub returns-in-AllInvalid-clause-refuses : goal.returns-in-AllInvalid-clause-refuses
returns-in-AllInvalid-clause-refuses c = grind (arith, common_steps)

pub returns-in-AllValid-clause-ok : goal.returns-in-AllValid-clause-ok
returns-in-AllValid-clause-ok c = grind (arith, common_steps)

pub returns-in-AllValid-clause-refuses : goal.returns-in-AllValid-clause-refuses
returns-in-AllValid-clause-refuses c = grind (arith, common_steps)

pub returns-in-NonNullable-clause-ok : goal.returns-in-NonNullable-clause-ok
returns-in-NonNullable-clause-ok c = grind (arith, common_steps)

pub returns-in-NonNullable-clause-refuses : goal.returns-in-NonNullable-clause-refuses
returns-in-NonNullable-clause-refuses c = grind (arith, common_steps)

pub returns-in_ok-told_by-in-Array-clause-ok : goal.returns-in_ok-told_by-in-Array-clause-ok
returns-in_ok-told_by-in-Array-clause-ok c = grind (arith, common_steps)

pub returns-in_ok-told_by-in-Array-clause-refuses : goal.returns-in_ok-told_by-in-Array-clause-refuses
returns-in_ok-told_by-in-Array-clause-refuses c = grind (arith, common_steps)

pub returns-then-not-is_plain_bool-clause-ok : goal.returns-then-not-is_plain_bool-clause-ok
returns-then-not-is_plain_bool-clause-ok c = grind (arith, common_steps)

pub returns-then-not-is_plain_bool-clause-refuses : goal.returns-then-not-is_plain_bool-clause-refuses
returns-then-not-is_plain_bool-clause-refuses c = grind (arith, common_steps)

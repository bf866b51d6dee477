use Rattle.std.proofs.Common.{arith}
use Rattle.std.proofs.lemmas.Grind.{common_steps}
use Rattle.vx_tree.proofs.array.Validity.take.Goals as goal

pub returns-in-AllInvalid-clause-refuses : goal.returns-in-AllInvalid-clause-refuses
returns-in-AllInvalid-clause-refuses c = grind (arith, common_steps)

pub returns-in-AllInvalid-clause-taken : goal.returns-in-AllInvalid-clause-taken
returns-in-AllInvalid-clause-taken c = grind (arith, common_steps)

pub returns-in_ok-validity-in-AllValid-clause-refuses : goal.returns-in_ok-validity-in-AllValid-clause-refuses
returns-in_ok-validity-in-AllValid-clause-refuses c = grind (arith, common_steps)

pub returns-in_ok-validity-in-AllValid-clause-taken : goal.returns-in_ok-validity-in-AllValid-clause-taken
returns-in_ok-validity-in-AllValid-clause-taken c = grind (arith, common_steps)

pub returns-in_ok-validity-in-Array-clause-refuses : goal.returns-in_ok-validity-in-Array-clause-refuses
returns-in_ok-validity-in-Array-clause-refuses c = grind (arith, common_steps)

pub returns-in_ok-validity-in-Array-clause-taken : goal.returns-in_ok-validity-in-Array-clause-taken
returns-in_ok-validity-in-Array-clause-taken c = grind (arith, common_steps)

pub returns-in_ok-validity-in-NonNullable-clause-refuses : goal.returns-in_ok-validity-in-NonNullable-clause-refuses
returns-in_ok-validity-in-NonNullable-clause-refuses c = grind (arith, common_steps)

pub returns-in_ok-validity-in-NonNullable-clause-taken : goal.returns-in_ok-validity-in-NonNullable-clause-taken
returns-in_ok-validity-in-NonNullable-clause-taken c = grind (arith, common_steps)

pub returns-then-not-is_plain_bool-clause-refuses : goal.returns-then-not-is_plain_bool-clause-refuses
returns-then-not-is_plain_bool-clause-refuses c = grind (arith, common_steps)

pub returns-then-not-is_plain_bool-clause-taken : goal.returns-then-not-is_plain_bool-clause-taken
returns-then-not-is_plain_bool-clause-taken c = grind (arith, common_steps)

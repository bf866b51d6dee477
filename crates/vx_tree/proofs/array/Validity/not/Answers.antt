use Rattle.std.proofs.Common.{arith}
use Rattle.std.proofs.lemmas.Grind.{common_steps}
use Rattle.vx_tree.proofs.array.Validity.not.Goals as goal

pub returns-in_ok-validity-in-Array-clause-opposite : goal.returns-in_ok-validity-in-Array-clause-opposite
returns-in_ok-validity-in-Array-clause-opposite c = λ n h. rw c.in-Array.is (c.in_ok-validity-in-Array.ensures n (rw c.in-Array.is at h))

pub returns-in-AllInvalid-clause-opposite : goal.returns-in-AllInvalid-clause-opposite
returns-in-AllInvalid-clause-opposite c = grind (arith, common_steps)

pub returns-in-AllInvalid-clause-refuses : goal.returns-in-AllInvalid-clause-refuses
returns-in-AllInvalid-clause-refuses c = grind (arith, common_steps)

pub returns-in-AllValid-clause-opposite : goal.returns-in-AllValid-clause-opposite
returns-in-AllValid-clause-opposite c = grind (arith, common_steps)

pub returns-in-AllValid-clause-refuses : goal.returns-in-AllValid-clause-refuses
returns-in-AllValid-clause-refuses c = grind (arith, common_steps)

pub returns-in-NonNullable-clause-opposite : goal.returns-in-NonNullable-clause-opposite
returns-in-NonNullable-clause-opposite c = grind (arith, common_steps)

pub returns-in-NonNullable-clause-refuses : goal.returns-in-NonNullable-clause-refuses
returns-in-NonNullable-clause-refuses c = grind (arith, common_steps)

pub returns-in_ok-validity-in-Array-clause-refuses : goal.returns-in_ok-validity-in-Array-clause-refuses
returns-in_ok-validity-in-Array-clause-refuses c = grind (arith, common_steps)

pub returns-then-not-is_plain_bool-clause-opposite : goal.returns-then-not-is_plain_bool-clause-opposite
returns-then-not-is_plain_bool-clause-opposite c = grind (arith, common_steps)

pub returns-then-not-is_plain_bool-clause-refuses : goal.returns-then-not-is_plain_bool-clause-refuses
returns-then-not-is_plain_bool-clause-refuses c = grind (arith, common_steps)

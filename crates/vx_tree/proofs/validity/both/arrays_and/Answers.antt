use Rattle.vx_tree.specs.Parts.{valid_of}
use Rattle.vx_tree.proofs.Validities.{arrays_joined}
use Rattle.std.proofs.Common.{arith}
use Rattle.std.proofs.lemmas.Grind.{common_steps}
use Rattle.vx_tree.proofs.validity.both.arrays_and.Goals as goal

pub returns-clause-pair : goal.returns-clause-pair
returns-clause-pair c = λ n l m. arrays_joined c.args.array.now c.args.other.now (valid_of c.in_ok-validity.validity) n c.in_ok-validity.ensures l

pub returns-clause-refuses : goal.returns-clause-refuses
returns-clause-refuses c = grind (arith, common_steps)

pub returns-clause-state : goal.returns-clause-state
returns-clause-state c = grind (arith, common_steps)

pub returns-then-found-expected-clause-pair : goal.returns-then-found-expected-clause-pair
returns-then-found-expected-clause-pair c = grind (arith, common_steps)

pub returns-then-found-expected-clause-refuses : goal.returns-then-found-expected-clause-refuses
returns-then-found-expected-clause-refuses c = grind (arith, common_steps)

pub returns-then-found-expected-clause-state : goal.returns-then-found-expected-clause-state
returns-then-found-expected-clause-state c = grind (arith, common_steps)

pub returns-then-not-is_plain_bool-clause-pair : goal.returns-then-not-is_plain_bool-clause-pair
returns-then-not-is_plain_bool-clause-pair c = grind (arith, common_steps)

pub returns-then-not-is_plain_bool-clause-refuses : goal.returns-then-not-is_plain_bool-clause-refuses
returns-then-not-is_plain_bool-clause-refuses c = grind (arith, common_steps)

pub returns-then-not-is_plain_bool-clause-state : goal.returns-then-not-is_plain_bool-clause-state
returns-then-not-is_plain_bool-clause-state c = grind (arith, common_steps)

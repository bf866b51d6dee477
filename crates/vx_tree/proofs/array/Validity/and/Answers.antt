use Rattle.std.proofs.Common.{refl}
use Rattle.vx_tree.specs.Tree.{non_nullable, all_invalid}
use Rattle.vx_tree.specs.Parts.{valid_of}
use Rattle.vx_tree.proofs.Validities.{pair_joined, pair_all_valid, state_made, kept_of_no_null, kept_of_all_valid}
use Rattle.vx_tree.proofs.array.Validity.and.Goals as goal

pub returns-in-NonNullable-clause-pair : goal.returns-in-NonNullable-clause-pair
returns-in-NonNullable-clause-pair c = λ n l m. rw c.in-NonNullable.is (pair_joined non_nullable (valid_of c.args.rhs) (valid_of c.args.rhs) n refl (λ i h. refl))

pub returns-in-AllValid-clause-pair : goal.returns-in-AllValid-clause-pair
returns-in-AllValid-clause-pair c = λ n l m. rw (c.in-AllValid.is, c.into_nullable.ensures) (pair_all_valid (valid_of c.args.rhs) n)

pub returns-in-AllValid-clause-state : goal.returns-in-AllValid-clause-state
returns-in-AllValid-clause-state c = rw (c.in-AllValid.is, c.into_nullable.ensures) (state_made (valid_of c.args.rhs))

pub returns-in-AllInvalid-clause-pair : goal.returns-in-AllInvalid-clause-pair
returns-in-AllInvalid-clause-pair c = λ n l m. rw c.in-AllInvalid.is (pair_joined all_invalid (valid_of c.args.rhs) all_invalid n refl (λ i h. refl))

pub returns-in-NonNullable-clause-state : goal.returns-in-NonNullable-clause-state
returns-in-NonNullable-clause-state c = rw c.in-NonNullable.is refl

pub returns-in-AllInvalid-clause-state : goal.returns-in-AllInvalid-clause-state
returns-in-AllInvalid-clause-state c = rw c.in-AllInvalid.is refl

pub returns-in-NonNullable-clause-refuses : goal.returns-in-NonNullable-clause-refuses
returns-in-NonNullable-clause-refuses c = rw c.in-NonNullable.is refl

pub returns-in-AllValid-clause-refuses : goal.returns-in-AllValid-clause-refuses
returns-in-AllValid-clause-refuses c = rw c.in-AllValid.is refl

pub returns-in-AllInvalid-clause-refuses : goal.returns-in-AllInvalid-clause-refuses
returns-in-AllInvalid-clause-refuses c = rw c.in-AllInvalid.is refl

pub returns-in-NonNullable-clause-array : goal.returns-in-NonNullable-clause-array
returns-in-NonNullable-clause-array c = rw c.in-NonNullable.is (kept_of_no_null (valid_of c.args.rhs))

pub returns-in-AllValid-clause-array : goal.returns-in-AllValid-clause-array
returns-in-AllValid-clause-array c = rw (c.in-AllValid.is, c.into_nullable.ensures) (kept_of_all_valid (valid_of c.args.rhs))

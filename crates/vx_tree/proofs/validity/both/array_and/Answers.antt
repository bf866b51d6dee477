use Rattle.std.proofs.Common.{refl}
use Rattle.vx_base.specs.Rows.{truth_of}
use Rattle.vx_tree.specs.Tree.{non_nullable, all_valid, all_invalid, by_array}
use Rattle.vx_tree.specs.Meaning.{row_at}
use Rattle.vx_tree.proofs.Validities.{pair_joined, and_true, and_false}
use Rattle.vx_tree.proofs.validity.both.array_and.Goals as goal

pub returns-in-NonNullable-clause-pair : goal.returns-in-NonNullable-clause-pair
returns-in-NonNullable-clause-pair c = λ n l m. rw c.in-NonNullable.is (pair_joined (by_array c.args.array) non_nullable (by_array c.args.array) n refl (λ i h. and_true (truth_of (row_at c.args.array i))))

pub returns-in-AllValid-clause-pair : goal.returns-in-AllValid-clause-pair
returns-in-AllValid-clause-pair c = λ n l m. rw c.in-AllValid.is (pair_joined (by_array c.args.array) all_valid (by_array c.args.array) n refl (λ i h. and_true (truth_of (row_at c.args.array i))))

pub returns-in-AllInvalid-clause-pair : goal.returns-in-AllInvalid-clause-pair
returns-in-AllInvalid-clause-pair c = λ n l m. rw c.in-AllInvalid.is (pair_joined (by_array c.args.array) all_invalid all_invalid n refl (λ i h. and_false (truth_of (row_at c.args.array i))))

use Rattle.std.proofs.Common.{rules, ap}
use Rattle.vx_tree.specs.Meaning.{tree_len}
use Rattle.vx_tree.specs.Parts.{valid_of}
use Rattle.vx_base.proofs.Refused.{Gives-weaker}
use Rattle.vx_tree.proofs.Dictionaries.{constant_with_nulls, zero_codes}
use Rattle.std.proofs.Common.{arith}
use Rattle.std.proofs.lemmas.Grind.{common_steps}
use Rattle.vx_tree.proofs.layouts.constant.constant_or_null.Goals as goal

pub returns-in-Ok-clause-by_row : goal.returns-in-Ok-clause-by_row
returns-in-Ok-clause-by_row c =
    Gives-weaker c.dictionary.result _ _
    (λ a e. constant_with_nulls a c.in_ok-codes.codes c.in-Ok.values c.args.scalar.now.kind c.args.scalar.now.row c.args.len (valid_of c.args.nulls.now) (search rules) c.in-Ok.ensures e c.in_ok-codes.ensures)
    c.dictionary.ensures

pub dictionary-requires : goal.dictionary-requires
dictionary-requires c = zero_codes c.in_ok-codes.codes c.in-Ok.values c.args.len (valid_of c.args.nulls.now) c.in_ok-codes.ensures (ap tree_len c.in-Ok.ensures)

pub returns-in-Ok-clause-one_value : goal.returns-in-Ok-clause-one_value
returns-in-Ok-clause-one_value c = grind (arith, common_steps)

pub returns-then-not-is_nullable-clause-by_row : goal.returns-then-not-is_nullable-clause-by_row
returns-then-not-is_nullable-clause-by_row c = grind (arith, common_steps)

pub returns-then-not-is_nullable-clause-one_value : goal.returns-then-not-is_nullable-clause-one_value
returns-then-not-is_nullable-clause-one_value c = grind (arith, common_steps)

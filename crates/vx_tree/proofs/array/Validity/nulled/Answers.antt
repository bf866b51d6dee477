use Rattle.std.proofs.Common.{ap, refl, arith}
use Rattle.std.proofs.lemmas.Grind.{common_steps}
use Rattle.vx_tree.specs.Parts.{valid_of}
use Rattle.vx_base.proofs.Refused.{Gives-weaker}
use Rattle.vx_tree.proofs.Nulled.{nulled_by_first, nulled_everywhere, nulled_array, valid_arrays}
use Rattle.vx_tree.proofs.array.Validity.nulled.Goals as goal

pub returns-in-Array-Array : goal.returns-in-Array-Array
returns-in-Array-Array c =
    Gives-weaker c.plain_and.result _ _
    (λ w h. valid_arrays (valid_of c.args.self.now) (valid_of c.args.nulls.now) (valid_of w) c.in-Array-Array.array c.in-Array-Array.other c.args.len
    (ap valid_of c.in-Array-Array.is-0) (ap valid_of c.in-Array-Array.is-1) c.requires.mine h)
    c.plain_and.ensures

pub returns-in-AllInvalid-default : goal.returns-in-AllInvalid-default
returns-in-AllInvalid-default c = nulled_everywhere (valid_of c.args.self.now) (valid_of c.args.nulls.now) _ c.args.len (ap valid_of c.in-AllInvalid-default.is-0) refl

pub returns-in-AllValid-default : goal.returns-in-AllValid-default
returns-in-AllValid-default c = grind (arith, common_steps)

pub returns-in-Array-AllInvalid : goal.returns-in-Array-AllInvalid
returns-in-Array-AllInvalid c = rw (ap valid_of c.in-Array-AllInvalid.is-0, ap valid_of c.in-Array-AllInvalid.is-1) c.nowhere_true.ensures

pub returns-in-Array-AllValid : goal.returns-in-Array-AllValid
returns-in-Array-AllValid c =
    Gives-weaker c.try_clone-in-Array-AllValid.result _ _
    (λ w e. nulled_array (valid_of c.args.self.now) (valid_of c.args.nulls.now) (valid_of w) _ c.args.len (ap valid_of c.in-Array-AllValid.is-0) (ap valid_of c.in-Array-AllValid.is-1) e c.requires.mine)
    c.try_clone-in-Array-AllValid.ensures

pub returns-in-NonNullable-default : goal.returns-in-NonNullable-default
returns-in-NonNullable-default c =
    Gives-weaker c.try_clone.result _ _
    (λ w e. nulled_by_first (valid_of c.args.self.now) (valid_of c.args.nulls.now) (valid_of w) c.args.len (ap valid_of c.in-NonNullable-default.is-0) e c.requires.theirs)
    c.try_clone.ensures

pub returns-in_default-NonNullable : goal.returns-in_default-NonNullable
returns-in_default-NonNullable c = grind (arith, common_steps)

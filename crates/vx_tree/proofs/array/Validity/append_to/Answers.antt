use Rattle.std.proofs.Common.{◌+◌, length, ap}
use Rattle.vx_tree.specs.Parts.{valid_of}
use Rattle.vx_tree.proofs.Joins.{added}
use Rattle.vx_tree.proofs.Masks.{all_true_mask, all_valid_mask, all_invalid_mask}
use Rattle.vx_tree.proofs.array.Validity.append_to.Goals as goal

pub returns-in-NonNullable : goal.returns-in-NonNullable
returns-in-NonNullable c =
    added c.append_n.result _ _ _ _ (length c.args.bits.now + c.args.len) c.requires.short c.append_n.ensures.ok c.append_n.ensures.refuses
    (all_true_mask (valid_of c.args.self.now) c.args.len (ap valid_of c.in-NonNullable.is))

pub returns-in-AllValid : goal.returns-in-AllValid
returns-in-AllValid c =
    added c.append_n-in-AllValid.result _ _ _ _ (length c.args.bits.now + c.args.len) c.requires.short c.append_n-in-AllValid.ensures.ok
    c.append_n-in-AllValid.ensures.refuses (all_valid_mask (valid_of c.args.self.now) c.args.len (ap valid_of c.in-AllValid.is))

pub returns-in-AllInvalid : goal.returns-in-AllInvalid
returns-in-AllInvalid c =
    added c.append_n-in-AllInvalid.result _ _ _ _ (length c.args.bits.now + c.args.len) c.requires.short c.append_n-in-AllInvalid.ensures.ok
    c.append_n-in-AllInvalid.ensures.refuses (all_invalid_mask (valid_of c.args.self.now) c.args.len (ap valid_of c.in-AllInvalid.is))

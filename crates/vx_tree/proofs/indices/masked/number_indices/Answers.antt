use Rattle.std.proofs.Common.{ap, subst, sym}
use Rattle.vx_base.specs.Refusals.{Refuses}
use Rattle.vx_tree.specs.Faults.{indices_fault}
use Rattle.vx_tree.specs.Tree.{primitive, non_nullable}
use Rattle.vx_tree.specs.Parts.{valid_of}
use Rattle.vx_tree.proofs.Named.{mask_counted, faults_under, indices_under, numbers_are_indices}
use Rattle.vx_tree.proofs.Refusing.{IfOk-weaker, IfOk-tested}
use Rattle.vx_tree.proofs.indices.masked.number_indices.Goals as goal

pub masked_indices-indices-requires-clause-bits : goal.masked_indices-indices-requires-clause-bits
masked_indices-indices-requires-clause-bits c =
    mask_counted c.args.ptype c.args.bytes.now (valid_of c.args.validity.now) c.in-Array.array c.in_ok-valid-in-Array.valid.bits (ap valid_of c.in-Array.is) c.requires.0 c.in_ok-valid-in-Array.ensures.bits

pub returns-in-NonNullable-clause-ok : goal.returns-in-NonNullable-clause-ok
returns-in-NonNullable-clause-ok c =
    IfOk-tested c.plain_indices.result _ _ (indices_fault c.args.len (primitive c.args.ptype c.args.bytes.now non_nullable))
    (λ ps e none. numbers_are_indices c.args.ptype c.args.bytes.now (valid_of c.args.validity.now) c.args.len ps e none)
    c.plain_indices.ensures.ok c.plain_indices.ensures.tests

pub returns-in-AllValid-clause-ok : goal.returns-in-AllValid-clause-ok
returns-in-AllValid-clause-ok c =
    IfOk-tested c.plain_indices-in-AllValid.result _ _ (indices_fault c.args.len (primitive c.args.ptype c.args.bytes.now non_nullable))
    (λ ps e none. numbers_are_indices c.args.ptype c.args.bytes.now (valid_of c.args.validity.now) c.args.len ps e none)
    c.plain_indices-in-AllValid.ensures.ok c.plain_indices-in-AllValid.ensures.tests

pub returns-in_ok-valid-in-Array-clause-ok : goal.returns-in_ok-valid-in-Array-clause-ok
returns-in_ok-valid-in-Array-clause-ok c =
    IfOk-weaker c.masked_indices-indices.result _ _
    (λ ps e. indices_under c.args.ptype c.args.bytes.now (valid_of c.args.validity.now) c.in-Array.array c.in_ok-valid-in-Array.valid.bits c.args.len ps (ap valid_of c.in-Array.is) c.requires.0 c.in_ok-valid-in-Array.ensures.bits e)
    c.masked_indices-indices.ensures.ok

pub returns-in_ok-valid-in-Array-clause-refuses : goal.returns-in_ok-valid-in-Array-clause-refuses
returns-in_ok-valid-in-Array-clause-refuses c =
    subst (Refuses c.masked_indices-indices.result)
    (sym (faults_under c.args.ptype c.args.bytes.now (valid_of c.args.validity.now) c.in-Array.array c.in_ok-valid-in-Array.valid.bits c.args.len (ap valid_of c.in-Array.is) c.requires.0 c.in_ok-valid-in-Array.ensures.bits))
    c.masked_indices-indices.ensures.refuses

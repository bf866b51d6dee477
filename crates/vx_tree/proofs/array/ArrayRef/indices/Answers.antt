use Rattle.std.proofs.Common.{◌∙◌, ap, sym, subst}
use Rattle.std.specs.Prelude.{IfOk}
use Rattle.vx_base.specs.Refusals.{Refuses}
use Rattle.vx_tree.specs.Faults.{indices_fault}
use Rattle.vx_tree.specs.Formed.{WellFormed}
use Rattle.vx_tree.specs.Named.{AreIndices}
use Rattle.vx_tree.specs.Parts.{tree_of, valid_of}
use Rattle.vx_tree.specs.Tree.{primitive}
use Rattle.vx_tree.proofs.Refusing.{Tests-Refuses}
use Rattle.vx_tree.proofs.array.ArrayRef.indices.Goals as goal

pub returns-then-is_repeated-clause-ok : goal.returns-then-is_repeated-clause-ok
returns-then-is_repeated-clause-ok c = c.one_position.ensures.ok

pub returns-then-is_repeated-clause-refuses : goal.returns-then-is_repeated-clause-refuses
returns-then-is_repeated-clause-refuses c = Tests-Refuses c.one_position.result (indices_fault c.args.len c.args.self.now) c.one_position.ensures.tests

pub number_indices-requires : goal.number_indices-requires
number_indices-requires c =
    let formed : WellFormed (primitive c.in-Primitive.ptype c.in-Primitive.bytes (valid_of c.in-Primitive.validity)) = rw c.in-Primitive.is at c.layout.ensures.formed in
    rw c.as_slice.ensures.value formed

pub returns-in-Primitive-clause-ok : goal.returns-in-Primitive-clause-ok
returns-in-Primitive-clause-ok c =
    let same = sym c.layout.ensures.parts ∙ ap tree_of c.in-Primitive.is in
    subst (λ t. IfOk c.number_indices.result (λ ps. AreIndices t c.args.len ps)) (sym same) (rw c.as_slice.ensures.value at c.number_indices.ensures.ok)

pub returns-in-Primitive-clause-refuses : goal.returns-in-Primitive-clause-refuses
returns-in-Primitive-clause-refuses c =
    let same = sym c.layout.ensures.parts ∙ ap tree_of c.in-Primitive.is in
    subst (λ t. Refuses c.number_indices.result (indices_fault c.args.len t)) (sym same) (rw c.as_slice.ensures.value at c.number_indices.ensures.refuses)

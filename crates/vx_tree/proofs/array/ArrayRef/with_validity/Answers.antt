use Rattle.std.proofs.Common.{◌≡◌, ◌∙◌, ap, sym, subst}
use Rattle.vx_base.specs.Refusals.{Gives}
use Rattle.vx_tree.specs.Parts.{tree_of, valid_of}
use Rattle.vx_tree.specs.Formed.{WellFormed}
use Rattle.vx_tree.specs.Slots.{under_validity}
use Rattle.vx_tree.proofs.array.ArrayRef.with_validity.Goals as goal

pub returns-in-Bool : goal.returns-in-Bool
returns-in-Bool c =
    let same = sym c.layout.ensures.parts ∙ ap tree_of c.in-Bool.is in
    subst (λ t. Gives c.bools_under.result (λ a. a ≡ under_validity t (valid_of c.args.validity))) (sym same) c.bools_under.ensures

pub returns-in-Primitive : goal.returns-in-Primitive
returns-in-Primitive c =
    let same = sym c.layout.ensures.parts ∙ ap tree_of c.in-Primitive.is in
    subst (λ t. Gives c.numbers_under.result (λ a. a ≡ under_validity t (valid_of c.args.validity))) (sym same) c.numbers_under.ensures

pub returns-in-FixedSizeList : goal.returns-in-FixedSizeList
returns-in-FixedSizeList c =
    let same = sym c.layout.ensures.parts ∙ ap tree_of c.in-FixedSizeList.is in
    subst (λ t. Gives c.fixed_lists_under.result (λ a. a ≡ under_validity t (valid_of c.args.validity))) (sym same) c.fixed_lists_under.ensures

pub returns-in-ListView : goal.returns-in-ListView
returns-in-ListView c =
    let same = sym c.layout.ensures.parts ∙ ap tree_of c.in-ListView.is in
    subst (λ t. Gives c.lists_under.result (λ a. a ≡ under_validity t (valid_of c.args.validity))) (sym same) c.lists_under.ensures

pub returns-in-VarBinView : goal.returns-in-VarBinView
returns-in-VarBinView c =
    let same = sym c.layout.ensures.parts ∙ ap tree_of c.in-VarBinView.is in
    subst (λ t. Gives c.same_views_under.result (λ a. a ≡ under_validity t (valid_of c.args.validity))) (sym same) (rw c.deref-in-VarBinView.ensures.value at c.same_views_under.ensures)

pub returns-in-Struct : goal.returns-in-Struct
returns-in-Struct c =
    let same = sym c.layout.ensures.parts ∙ ap tree_of c.in-Struct.is in
    subst (λ t. Gives c.records_under.result (λ a. a ≡ under_validity t (valid_of c.args.validity))) (sym same) (rw c.deref.ensures.value at c.records_under.ensures)

pub bools_under-requires : goal.bools_under-requires
bools_under-requires c =
    let same = sym c.layout.ensures.parts ∙ ap tree_of c.in-Bool.is in
    subst (λ t. WellFormed (under_validity t (valid_of c.args.validity))) same c.requires

pub numbers_under-requires : goal.numbers_under-requires
numbers_under-requires c =
    let same = sym c.layout.ensures.parts ∙ ap tree_of c.in-Primitive.is in
    subst (λ t. WellFormed (under_validity t (valid_of c.args.validity))) same c.requires

pub fixed_lists_under-requires : goal.fixed_lists_under-requires
fixed_lists_under-requires c =
    let same = sym c.layout.ensures.parts ∙ ap tree_of c.in-FixedSizeList.is in
    subst (λ t. WellFormed (under_validity t (valid_of c.args.validity))) same c.requires

pub lists_under-requires : goal.lists_under-requires
lists_under-requires c =
    let same = sym c.layout.ensures.parts ∙ ap tree_of c.in-ListView.is in
    subst (λ t. WellFormed (under_validity t (valid_of c.args.validity))) same c.requires

pub same_views_under-requires : goal.same_views_under-requires
same_views_under-requires c =
    let same = sym c.layout.ensures.parts ∙ ap tree_of c.in-VarBinView.is in
    rw c.deref-in-VarBinView.ensures.value (subst (λ t. WellFormed (under_validity t (valid_of c.args.validity))) same c.requires)

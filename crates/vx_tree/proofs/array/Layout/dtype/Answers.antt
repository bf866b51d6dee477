use Rattle.std.proofs.Common.{◌≡◌, ◌∙◌, ap, sym, subst, arith}
use Rattle.std.proofs.lemmas.Grind.{common_steps}
use Rattle.vx_base.specs.DTypes.{dtype_meaning}
use Rattle.vx_base.specs.Kinds.{booleans, integers}
use Rattle.vx_base.specs.Refusals.{Gives}
use Rattle.vx_tree.specs.Meaning.{kind_of}
use Rattle.vx_tree.specs.Parts.{tree_of}
use Rattle.vx_tree.proofs.array.Layout.dtype.Goals as goal

pub returns-in-Bool : goal.returns-in-Bool
returns-in-Bool c = ap booleans c.nullability.ensures ∙ sym (ap (λ l. kind_of (tree_of l)) c.in-Bool.is)

pub returns-in-Primitive : goal.returns-in-Primitive
returns-in-Primitive c = ap (integers c.in-Primitive.ptype) c.nullability-in-Primitive.ensures ∙ sym (ap (λ l. kind_of (tree_of l)) c.in-Primitive.is)

pub returns-in-Constant : goal.returns-in-Constant
returns-in-Constant c = grind (arith, common_steps)

pub returns-in-VarBinView : goal.returns-in-VarBinView
returns-in-VarBinView c =
    subst (λ l. Gives c.try_clone-in-VarBinView.result (λ d. dtype_meaning d ≡ kind_of (tree_of l))) (sym c.in-VarBinView.is) c.try_clone-in-VarBinView.ensures

pub returns-in-Dict : goal.returns-in-Dict
returns-in-Dict c = subst (λ l. Gives c.dictionary_dtype.result (λ d. dtype_meaning d ≡ kind_of (tree_of l))) (sym c.in-Dict.is) c.dictionary_dtype.ensures

pub returns-in-FixedSizeList : goal.returns-in-FixedSizeList
returns-in-FixedSizeList c =
    subst (λ l. Gives c.fixed_lists_dtype.result (λ d. dtype_meaning d ≡ kind_of (tree_of l))) (sym c.in-FixedSizeList.is) (rw c.nullability-in-FixedSizeList.ensures at c.fixed_lists_dtype.ensures)

pub returns-in-ListView : goal.returns-in-ListView
returns-in-ListView c =
    subst (λ l. Gives c.lists_dtype.result (λ d. dtype_meaning d ≡ kind_of (tree_of l))) (sym c.in-ListView.is) (rw c.nullability-in-ListView.ensures at c.lists_dtype.ensures)

pub returns-in-Struct : goal.returns-in-Struct
returns-in-Struct c =
    subst (λ l. Gives c.record_dtype.result (λ d. dtype_meaning d ≡ kind_of (tree_of l))) (sym c.in-Struct.is) (rw (c.deref.ensures.value, c.nullability-in-Struct.ensures) at c.record_dtype.ensures)

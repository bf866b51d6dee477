use Rattle.vx_pack.proofs.PartRows.{list_at_place, list_of_values}
use Rattle.std.proofs.Common.{◌≡◌, sym, ◌∙◌, ap, subst, Some}
use Rattle.vx_base.specs.Kinds.{Fits}
use Rattle.vx_tree.specs.Meaning.{kind_of, row_at}
use Rattle.vx_tree.specs.Parts.{tree_of}
use Rattle.vx_tree.specs.Tree.{Tree, constant}
use Rattle.vx_pack.specs.Lists.{IsItemOf, IsListOf}
use Rattle.vx_base.specs.Rows.{Row}
use Rattle.vx_pack.proofs.lists.list_of_place.Goals as goal

pub returns-in-FixedSizeList : goal.returns-in-FixedSizeList
returns-in-FixedSizeList c = λ item of_item.
    list_at_place c.args.array.now c.in_ok-place.place.array.now c.args.row c.in_ok-place.place.row item c.list_of_size.result c.in_ok-place.ensures of_item (c.list_of_size.ensures item)

pub returns-in-ListView : goal.returns-in-ListView
returns-in-ListView c = λ item of_item.
    list_at_place c.args.array.now c.in_ok-place.place.array.now c.args.row c.in_ok-place.place.row item c.list_of_view.result c.in_ok-place.ensures of_item (c.list_of_view.ensures item)

pub returns-in_ok-items_of-in-Constant : goal.returns-in_ok-items_of-in-Constant
returns-in_ok-items_of-in-Constant c = λ item of_item.
    let k = c.in-Constant.scalar.kind in
    let r = c.in-Constant.scalar.row in
    let same : c.in_ok-place.place.array.now ≡ constant k r c.in-Constant.len = sym c.layout.ensures.parts ∙ ap tree_of c.in-Constant.is in
    let formed : Fits k r = rw c.in-Constant.is at c.layout.ensures.formed in
    list_at_place c.args.array.now c.in_ok-place.place.array.now c.args.row c.in_ok-place.place.row item (Some c.part_of_values.result) c.in_ok-place.ensures of_item
    (λ inner.
    let of_k = subst (λ (t : Tree). IsItemOf item (kind_of t)) same inner in
    subst (λ (x : Row). IsListOf item x c.part_of_values.result) (sym (ap (λ (t : Tree). row_at t c.in_ok-place.place.row) same))
    (list_of_values item k c.value.result.now r c.in_ok-items_of-in-Constant.field-0.now c.part_of_values.result of_k formed c.value.ensures c.in_ok-items_of-in-Constant.ensures c.part_of_values.ensures))

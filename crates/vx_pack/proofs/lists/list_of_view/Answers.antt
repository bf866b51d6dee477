use Rattle.std.proofs.Common.{sym, ◌∙◌, ap}
use Rattle.vx_tree.specs.Parts.{tree_of, valid_of}
use Rattle.vx_pack.proofs.PartRows.{list_of_views}
use Rattle.vx_pack.proofs.lists.list_of_view.Goals as goal

pub returns : goal.returns
returns c = λ item of_item.
    list_of_views c.args.array.now c.in-ListView.elements c.in-ListView.offsets c.in-ListView.sizes (valid_of c.in-ListView.validity) c.in-ListView.flag c.args.row c.count_at.result c.count_at-2.result item c.part_of.result
    (sym c.layout.ensures.parts ∙ ap tree_of c.in-ListView.is) (sym c.is_valid_at.ensures ∙ c.if-not-is_valid_at.false) c.count_at.ensures c.count_at-2.ensures c.part_of.ensures of_item

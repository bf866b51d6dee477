use Rattle.std.proofs.Common.{sym, ◌∙◌, ap}
use Rattle.vx_tree.specs.Parts.{tree_of, valid_of}
use Rattle.vx_pack.proofs.PartRows.{list_of_sizes}
use Rattle.vx_pack.proofs.lists.list_of_size.Goals as goal

pub returns : goal.returns
returns c = λ item of_item.
    list_of_sizes c.args.array.now c.in-FixedSizeList.elements c.in-FixedSizeList.size (valid_of c.in-FixedSizeList.validity) c.in-FixedSizeList.len c.args.row item c.part_of.result
    (sym c.layout.ensures.parts ∙ ap tree_of c.in-FixedSizeList.is) (sym c.is_valid_at.ensures ∙ c.if-not-is_valid_at.false) c.part_of.ensures of_item

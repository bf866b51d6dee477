use Rattle.std.proofs.Common.{◌<◌, ap, sym, ◌∙◌, arith}
use Rattle.vx_base.proofs.Refused.{Gives-weaker}
use Rattle.vx_tree.specs.Meaning.{trees_from}
use Rattle.vx_tree.specs.Formed.{column_count}
use Rattle.vx_tree.specs.Parts.{tree_of}
use Rattle.vx_canonical.specs.Joined.{column_of}
use Rattle.vx_canonical.proofs.JoinedRecords.{column_of_list, count_of_list}
use Rattle.vx_canonical.proofs.layouts.structure.column_of.Goals as goal

pub index-requires : goal.index-requires
index-requires c =
    let same = sym c.layout.ensures.parts ∙ ap tree_of c.in-Struct.is in
    let inside : c.args.place < column_count (trees_from c.in-Struct.columns.items) = rw same at c.requires.place in
    omega (arith, inside, count_of_list c.in-Struct.columns.items, c.in-Struct.columns.ok.0)

pub returns : goal.returns
returns c =
    let same = sym c.layout.ensures.parts ∙ ap tree_of c.in-Struct.is in
    let inside : c.args.place < column_count (trees_from c.in-Struct.columns.items) = rw same at c.requires.place in
    let column = column_of_list c.in-Struct.columns.items c.args.place c.index.result.now (omega (arith, inside, count_of_list c.in-Struct.columns.items)) in
    Gives-weaker c.try_clone.result _ _ (λ a e. e ∙ c.index.ensures ∙ sym column ∙ sym (ap (column_of c.args.place) same)) c.try_clone.ensures

use Rattle.std.proofs.lemmas.Result.{IfOk-weaker}
use Rattle.vx_tree.specs.Parts.{valid_of}
use Rattle.vx_tree.specs.Meaning.{rows}
use Rattle.vx_lists.proofs.FixedSizeLists.{list_of_fixed_elements}
use Rattle.vx_lists.proofs.fixed_size_list.ext.FixedSizeListArrayFixedSizeListArrayExt.fixed_size_list_elements_at.Goals as goal

pub returns-clause-list : goal.returns-clause-list
returns-clause-list c =
    let parts = c.parts-parts.result in
    IfOk-weaker c.slice.result _ _ (λ a read. list_of_fixed_elements c.args.self.now parts.elements.now parts.list_size parts.len (valid_of parts.validity.now) c.args.i (rows a) c.parts-parts.ensures.same c.parts-parts.ensures.formed c.requires read) c.slice.ensures.rows

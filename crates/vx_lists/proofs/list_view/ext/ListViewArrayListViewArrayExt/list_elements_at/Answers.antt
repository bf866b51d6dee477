use Rattle.std.proofs.Common.{◌≡◌, ◌+◌, ◌∙◌}
use Rattle.std.specs.Prelude.{slice_range}
use Rattle.std.proofs.lemmas.Result.{IfOk-weaker}
use Rattle.vx_base.specs.Rows.{count_in}
use Rattle.vx_tree.specs.Parts.{valid_of}
use Rattle.vx_tree.specs.Meaning.{row_at, rows}
use Rattle.vx_lists.proofs.ListViews.ViewLayouts.{list_of_elements}
use Rattle.vx_lists.proofs.list_view.ext.ListViewArrayListViewArrayExt.list_elements_at.Goals as goal

pub returns-clause-list : goal.returns-clause-list
returns-clause-list c =
    let parts = c.parts-parts.result in
    let start = count_in (row_at parts.offsets.now c.args.i) in
    let end = start + count_in (row_at parts.sizes.now c.args.i) in
    let place : slice_range (rows parts.elements.now) c.count_at-start.result (c.count_at-start.result + c.count_at.result) ≡ slice_range (rows parts.elements.now) start end =
    (λ k. slice_range (rows parts.elements.now) (c.count_at-start.ensures.value k) (c.count_at-start.ensures.value k + c.count_at.ensures.value k)) in
    IfOk-weaker c.slice.result _ _ (λ a read. list_of_elements c.args.self.now parts.elements.now parts.offsets.now parts.sizes.now (valid_of parts.validity.now) parts.flag c.args.i (rows a) c.parts-parts.ensures.same c.parts-parts.ensures.formed c.requires (read ∙ place)) c.slice.ensures.rows

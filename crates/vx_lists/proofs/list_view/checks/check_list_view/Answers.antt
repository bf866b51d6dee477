use Rattle.std.proofs.Common.{sym, ◌∙◌, ap}
use Rattle.vx_tree.specs.Parts.{valid_of}
use Rattle.vx_lists.specs.ListViews.Faults.{list_rows_fault}
use Rattle.vx_lists.proofs.ListViews.Faults.{parts_checked, list_view_formed, OnOk-tests, OnOk-three}
use Rattle.vx_lists.proofs.list_view.checks.check_list_view.Goals as goal

pub returns-clause-formed : goal.returns-clause-formed
returns-clause-formed c =
    let parts = parts_checked c.args.offsets.now c.args.sizes.now (valid_of c.args.validity.now) c.in_ok-check_list_parts.ensures.tests in
    OnOk-three c.check_list_rows.result c.check_list_rows.ensures.offsets c.check_list_rows.ensures.sizes (OnOk-tests c.check_list_rows.result (list_rows_fault c.len.result c.args.offsets.now c.args.sizes.now) c.check_list_rows.ensures.tests)
    (λ offsets sizes none. list_view_formed c.args.elements.now c.args.offsets.now c.args.sizes.now (valid_of c.args.validity.now) parts offsets sizes (sym (ap (λ n. list_rows_fault n c.args.offsets.now c.args.sizes.now) c.len.ensures) ∙ none))

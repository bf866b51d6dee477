use Rattle.std.proofs.Common.{◌≡◌, ◌<◌, sym, ◌∙◌, subst, to_z, of_z, rules}
use Rattle.std.specs.Int.{w128}
use Rattle.std.proofs.lemmas.Result.{err_from_is_err_and}
use Rattle.vx_tree.specs.Meaning.{tree_len}
use Rattle.vx_base.specs.Refusals.{Names}
use Rattle.vx_lists.specs.ListViews.Faults.{list_row_fault}
use Rattle.vx_lists.proofs.ListViews.Faults.{AreChecked-fault, found_passed}
use Rattle.vx_lists.proofs.list_view.checks.check_each_row.Goals as goal

pub returns-in_err-check_list_row-clause-tests : goal.returns-in_err-check_list_row-clause-tests
returns-in_err-check_list_row-clause-tests c =
    let p = err_from_is_err_and c.from_residual.result c.from_residual.ensures.1 in
    let offset : to_z w128 (of_z w128 c.unwrap-offset.result) ≡ c.unwrap-offset.result = found_passed _ c.int_at.result c.unwrap-offset.result c.unwrap-offset.ensures c.int_at.ensures.holds in
    let size : to_z w128 (of_z w128 c.unwrap-size.result) ≡ c.unwrap-size.result = found_passed _ c.int_at-in-loop-row.result c.unwrap-size.result c.unwrap-size.ensures c.int_at-in-loop-row.ensures.holds in
    let inside : c.loop-row.row < tree_len c.args.offsets.now = search rules in
    let error = c.in_err-check_list_row.field-0.0 in
    let names : Names (list_row_fault c.args.count c.loop-row.row c.unwrap-offset.result c.unwrap-size.result) error =
    subst (λ z. Names (list_row_fault c.args.count c.loop-row.row c.unwrap-offset.result z) error) size
    (subst (λ z. Names (list_row_fault c.args.count c.loop-row.row z (to_z w128 (of_z w128 c.unwrap-size.result))) error) offset c.in_err-check_list_row.ensures.tests) in
    rw (p.1, p.2) (AreChecked-fault c.args.count c.args.offsets.now c.args.sizes.now c.loop-row.row c.unwrap-offset.result c.unwrap-size.result c.loop-row.invariant (sym c.int_at.ensures.value ∙ c.unwrap-offset.ensures) (sym c.int_at-in-loop-row.ensures.value ∙ c.unwrap-size.ensures) error inside names)
